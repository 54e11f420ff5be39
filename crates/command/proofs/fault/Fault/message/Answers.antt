use Rattle.std.proofs.Common.{◌∙◌}
use Rattle.command.proofs.VisibleNames.{visible-none}
use Rattle.command.proofs.fault.Fault.message.Goals as goal

pub returns-in-Usage : goal.returns-in-Usage
returns-in-Usage c = rw c.in-Usage.is (visible-none _)

pub returns-in-KeyFileTooLong : goal.returns-in-KeyFileTooLong
returns-in-KeyFileTooLong c = rw c.in-KeyFileTooLong.is (c.of.ensures ∙ visible-none _)

pub returns-in-KeyLength : goal.returns-in-KeyLength
returns-in-KeyLength c = rw c.in-KeyLength.is (c.of-in-KeyLength.ensures ∙ visible-none _)

pub returns-in-CannotRead : goal.returns-in-CannotRead
returns-in-CannotRead c = rw c.in-CannotRead.is c.of-in-CannotRead.ensures

pub returns-in-TooLong : goal.returns-in-TooLong
returns-in-TooLong c = rw c.in-TooLong.is c.of-in-TooLong.ensures

pub returns-in-BadName : goal.returns-in-BadName
returns-in-BadName c = rw c.in-BadName.is c.of-in-BadName.ensures

pub returns-in-BadNameAt : goal.returns-in-BadNameAt
returns-in-BadNameAt c = rw c.in-BadNameAt.is (c.of_number.ensures ∙ visible-none _)

pub returns-in-MoreThanPart : goal.returns-in-MoreThanPart
returns-in-MoreThanPart c = rw c.in-MoreThanPart.is c.of-in-MoreThanPart.ensures

pub returns-in-OtherLine : goal.returns-in-OtherLine
returns-in-OtherLine c = rw c.in-OtherLine.is c.of_number-in-OtherLine.ensures

pub returns-in-BytesBehind : goal.returns-in-BytesBehind
returns-in-BytesBehind c = rw c.in-BytesBehind.is c.of-in-BytesBehind.ensures

pub returns-in-CannotWrite : goal.returns-in-CannotWrite
returns-in-CannotWrite c = rw c.in-CannotWrite.is (c.of-in-CannotWrite.ensures ∙ visible-none _)

pub returns-in-OutOfMemory : goal.returns-in-OutOfMemory
returns-in-OutOfMemory c = rw c.in-OutOfMemory.is (c.of-in-OutOfMemory.ensures ∙ visible-none _)
