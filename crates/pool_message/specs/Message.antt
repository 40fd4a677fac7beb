-- Messages between the masters as bytes: how each is written, and what is read from any bytes.
use Rattle.std.specs.Prelude.{ℕ, ◌+◌, ◌/◌, ◌%◌, List, ◌∷◌, ◌++◌, Bool, cond, ◌&&◌, ◌||◌, length, get_or, eqb, leb, Option, Some, None}
use Rattle.refusal.specs.Answer.{is_not}
use Rattle.strip.specs.Strip.{bad_framing}
use Rattle.pool_numbers.specs.Numbers.{number_bytes, number_at}
use Rattle.pool_message.specs.declared.Message.{Message}
use Rattle.pool_message.specs.declared.Message.TheVariants.{Adds, Takes, Acknowledges}

-- two bytes of length, big-endian, counting all that follows; version 1; kind 1, 2 or 3; the sequence number
unfoldable pub front_bytes : ℕ → ℕ → ℕ → List ℕ
front_bytes follows kind sequence = follows / 256 % 256 ∷ follows % 256 ∷ 1 ∷ kind ∷ number_bytes sequence

-- an addition goes on with the strip's number and the strip, a taking with the strip's number; an acknowledgement ends there
unfoldable pub addition : ℕ → ℕ → List ℕ → List ℕ
addition sequence number s = front_bytes (10 + length s) 1 sequence ++ (number_bytes number ++ s)

unfoldable pub taking : ℕ → ℕ → List ℕ
taking sequence number = front_bytes 10 2 sequence ++ number_bytes number

unfoldable pub acknowledgement : ℕ → List ℕ
acknowledgement sequence = front_bytes 6 3 sequence

-- no message: framing as of a strip, or version, is wrong
unfoldable pub misframed : List ℕ → Bool
misframed m = bad_framing m || is_not 1 (get_or m 2 0)

-- of this kind, and of a size that it can have
unfoldable pub is_of : ℕ → Bool → List ℕ → Bool
is_of kind sized m = eqb (get_or m 3 0) kind && sized

-- what is read from any bytes; the strip of an addition is all from its thirteenth byte on
unfoldable pub read_of : List ℕ → Option Message
read_of m =
    cond (misframed m) None
    (cond (is_of 1 (leb 12 (length m)) m) (Some (Adds (number_at m 4) (number_at m 8)))
    (cond (is_of 2 (eqb (length m) 12) m) (Some (Takes (number_at m 4) (number_at m 8)))
    (cond (is_of 3 (eqb (length m) 8) m) (Some (Acknowledges (number_at m 4))) None)))

-- the sequence number of a message, or of the one acknowledged; 0 where it is none
abbrev pub sequence : Option Message → ℕ
sequence (Some (Adds k n)) = k
sequence (Some (Takes k n)) = k
sequence (Some (Acknowledges k)) = k
sequence None = 0
