-- A step on a lent part that is for one length alone, and has no refusal.
use Rattle.std.specs.Prelude.{ℕ, List, cond, length, eqb}

-- a step f where l has so many bytes; else l is left as it is
unfoldable pub on_length : ℕ → (List ℕ → List ℕ) → List ℕ → List ℕ
on_length size f l = cond (eqb (length l) size) (f l) l
