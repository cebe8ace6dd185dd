use Rattle.std.specs.Prelude.{ℕ}
use Rattle.run_status.specs.declared.printout.PrintError.{PrintError}
use Rattle.run_status.specs.declared.printout.PrintError.TheVariants.{WriteFault as NotWritten, OutOfMemory as NoRoom}
use Rattle.run_status.specs.declared.status.Status.{Status}
use Rattle.run_status.specs.declared.status.Status.TheVariants.{Ok, Usage, BadScript, ReadFault, WriteFault, DiskFault, OutOfMemory, KeyTaken, Illegal, BadText}

-- the exit status of a program
abbrev pub code_of : Status → ℕ
code_of Ok = 0
code_of Usage = 2
code_of BadScript = 3
code_of ReadFault = 4
code_of WriteFault = 5
code_of DiskFault = 6
code_of OutOfMemory = 7
code_of KeyTaken = 9
code_of Illegal = 11
code_of BadText = 12

-- how a command ends whose text isn't printed
abbrev pub status_of : PrintError → Status
status_of NotWritten = WriteFault
status_of NoRoom = OutOfMemory
