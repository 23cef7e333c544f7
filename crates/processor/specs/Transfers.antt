-- What an access transfers, and what it leaves in the memory.
-- Assumes nothing.
use Rattle.std.specs.Prelude.{Some, None, Option}
use Rattle.board.specs.declared.signals.Direction.TheVariants.{Read, Write, Neither}
use Rattle.execution.specs.declared.access.Access.{Access}
use Rattle.execution.specs.declared.access.Access.TheVariants.{Reads, Writes}
use Rattle.memory.specs.Store.{Store, put}
use Rattle.processor.specs.declared.transfer.Transfer.{Transfer}

-- a cycle that uses no byte has neither, 0000 and FF
abbrev pub transfer_of : Option Access → Store → Transfer
transfer_of (Some (Reads a)) s = record { direction = Read; address = a; byte = s.byte a }
transfer_of (Some (Writes a v)) s = record { direction = Write; address = a; byte = v }
transfer_of None s = record { direction = Neither; address = 0x0000; byte = 0xFF }

abbrev pub store_after : Option Access → Store → Store
store_after (Some (Reads a)) s = s
store_after (Some (Writes a v)) s = put s a v
store_after None s = s
