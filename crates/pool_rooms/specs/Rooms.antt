-- The rooms: 64 of 676 bytes, one after another. The strip that has n before it lies in room n modulo 64; what is free is zero.
use Rattle.std.specs.Prelude.{ℕ, ◌+◌, ◌-◌, ◌*◌, ◌%◌, List, ◌++◌, cond, length, take, drop, replicate, leb}
use Rattle.strip.specs.Strip.{length_field}

-- 64 rooms of 676 bytes
abbrev pub rooms_size : ℕ
rooms_size = 64 * 676

-- the room of the strip that has n before it, and the rooms with that one changed
unfoldable pub room_at : List ℕ → ℕ → List ℕ
room_at rooms n = take 676 (drop (676 * (n % 64)) rooms)

unfoldable pub with_room : List ℕ → ℕ → List ℕ → List ℕ
with_room rooms n room = take (676 * (n % 64)) rooms ++ (room ++ drop (676 * (n % 64) + 676) rooms)

-- bytes, and zeros to a length
unfoldable pub padded : ℕ → List ℕ → List ℕ
padded size l = l ++ replicate (size - length l) 0

unfoldable pub filled : List ℕ → ℕ → List ℕ → List ℕ
filled rooms n s = with_room rooms n (padded 676 s)

-- and only a strip that a room can hold
unfoldable pub filled_by : ℕ → List ℕ → List ℕ → List ℕ
filled_by n s rooms = cond (leb (length s) 676) (filled rooms n s) rooms

unfoldable pub cleared : List ℕ → ℕ → List ℕ
cleared rooms n = with_room rooms n (replicate 676 0)

-- the strip in a room: as long as its own length field says
unfoldable pub strip_in : List ℕ → List ℕ
strip_in room = take (length_field room + 2) room
