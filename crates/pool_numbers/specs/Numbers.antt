-- Strip and sequence numbers as bytes: four of them, big-endian; what is not there counts as zero.
use Rattle.std.specs.Prelude.{ℕ, ◌+◌, ◌*◌, ◌/◌, ◌%◌, List, [], ◌∷◌, get_or}

unfoldable pub number_bytes : ℕ → List ℕ
number_bytes n = n / 16777216 % 256 ∷ n / 65536 % 256 ∷ n / 256 % 256 ∷ n % 256 ∷ []

unfoldable pub number_at : List ℕ → ℕ → ℕ
number_at l i = ((get_or l i 0 * 256 + get_or l (i + 1) 0) * 256 + get_or l (i + 2) 0) * 256 + get_or l (i + 3) 0
