-- The number and the kind of each refusal, and the refusal of each number.
use Rattle.std.specs.Prelude.{ℕ, ◌-◌, List, [], ◌∷◌, get_or}
use Rattle.refusal.specs.declared.Refusal.{Refusal}
use Rattle.refusal.specs.declared.Refusal.TheVariants.{Operand, ThirdByte, PointsLength, KeyLength, RoundKeysLength, NotLent, BadFraming, UnknownVersion, OtherKeySize, BadRecord, Spent, WrongRecordBytes, NoDirection, NoRoom, NoneHeld, BadMessage, NoStrip, LongMessage, EncryptsOnly, RetiredKey, BadTrace, OtherPoint, Waiting, UsedUp}
use Rattle.refusal.specs.declared.Kind.{Kind}
use Rattle.refusal.specs.declared.Kind.TheVariants as of

abbrev pub number : Refusal → ℕ
number Operand = 1
number ThirdByte = 2
number PointsLength = 3
number KeyLength = 4
number RoundKeysLength = 5
number NotLent = 6
number BadFraming = 7
number UnknownVersion = 8
number OtherKeySize = 9
number BadRecord = 10
number Spent = 11
number WrongRecordBytes = 12
number NoDirection = 13
number NoRoom = 14
number NoneHeld = 15
number BadMessage = 16
number NoStrip = 17
number LongMessage = 18
number EncryptsOnly = 19
number RetiredKey = 20
number BadTrace = 21
number OtherPoint = 22
number Waiting = 23
number UsedUp = 24

-- the kinds of the numbers 1 to 24
abbrev pub kinds : List Kind
kinds =
    of.Operand ∷ of.Operand ∷ of.Buffer ∷ of.Key ∷ of.Buffer ∷ of.Buffer ∷ of.Strip ∷ of.Strip ∷ of.Strip ∷ of.Strip ∷ of.Strip ∷ of.Strip
    ∷ of.Direction ∷ of.Pool ∷ of.Pool ∷ of.Message ∷ of.Strip ∷ of.Message ∷ of.Strip ∷ of.Key ∷ of.Trace ∷ of.Trace ∷ of.Pool ∷ of.Pool ∷ []

abbrev pub kind : Refusal → Kind
kind r = get_or kinds (number r - 1) of.Operand

-- the refusals of the numbers 1 to 24
abbrev pub refusals : List Refusal
refusals =
    Operand ∷ ThirdByte ∷ PointsLength ∷ KeyLength ∷ RoundKeysLength ∷ NotLent ∷ BadFraming ∷ UnknownVersion ∷ OtherKeySize ∷ BadRecord ∷ Spent ∷ WrongRecordBytes
    ∷ NoDirection ∷ NoRoom ∷ NoneHeld ∷ BadMessage ∷ NoStrip ∷ LongMessage ∷ EncryptsOnly ∷ RetiredKey ∷ BadTrace ∷ OtherPoint ∷ Waiting ∷ UsedUp ∷ []

-- the refusal of a number; one that is not in the table reads as 22, which no call gives
abbrev pub refusal : ℕ → Refusal
refusal n = get_or (OtherPoint ∷ refusals) n OtherPoint
