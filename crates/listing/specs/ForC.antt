-- What C is told.
-- Assumes nothing.
use Rattle.listing.specs.declared.c.LineAnswer.{LineAnswer}
use Rattle.listing.specs.Lines.{Answer, answer}

abbrev pub told : LineAnswer → Answer
told a = answer a.number a.line a.group
