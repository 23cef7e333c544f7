use Rattle.std.proofs.Common.{vec_items, vec_len, vec_capacity}
use Rattle.std.proofs.lemmas.Result.{MatchResult-from_err}
use Rattle.listing.specs.Program.{Lists, NoRoom}
use Rattle.listing.proofs.Parts.{going_all, going_full, going_more}
use Rattle.listing.proofs.program.list_program.Goals as goal

pub loop-placed-preserved : goal.loop-placed-preserved
loop-placed-preserved c = going_more c.loop-placed.invariant c.in-Some.ensures.steps c.in_ok-add.ensures

pub returns : goal.returns
returns c = going_all c.loop-placed.invariant c.in-None.ensures.steps.0

pub returns-in_err-add : goal.returns-in_err-add
returns-in_err-add c =
    MatchResult-from_err c.from_residual.result
    (λ l. Lists (vec_items c.args.text) c.args.code.address c.args.code.bytes.now l)
    (λ _. NoRoom (vec_capacity c.args.text) (vec_len c.args.text) c.args.code.address c.args.code.bytes.now)
    c.from_residual.ensures.0
    (λ _. going_full (vec_len c.args.text) c.loop-placed.invariant c.args.text.ok.0 c.in-Some.ensures.steps c.in_err-add.ensures)
