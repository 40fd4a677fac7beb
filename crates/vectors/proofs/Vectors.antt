-- The worked examples, by computation; the way back from InvCipher undoing Cipher. Assumes nothing.
use mathlib.Core.Path.{◌≡◌, refl, sym, ap, ◌∙◌}
use mathlib.Core.Bool.{Bool, true, ◌&&◌}
use mathlib.Core.List.{List, [], ◌∷◌}
use Prim.Native.Nat.{ℕ, ◌<◌}
use lib.Dec.{T, ltb, ltb→lt, lit<}
use lib.ListN.{take}
use Rattle.fips197.specs.Field.{field}
use Rattle.fips197.specs.Cipher.{fips, cipher, inv_cipher, key_expansion}
use Rattle.fips197.specs.Claims.{Bytes}
use Rattle.fips197.proofs.Below.{both_left, both_right}
use Rattle.fips197.proofs.Claims.{undone}
use Rattle.fips197.proofs.Words.{expansion_bytes}
use Rattle.vectors.specs.Vectors as specs

pub expansion16 : specs.Expansion16
unfolding fips field
expansion16 = refl

pub expansion24 : specs.Expansion24
unfolding fips field
expansion24 = refl

pub expansion32 : specs.Expansion32
unfolding fips field
expansion32 = refl

pub block : specs.Cipher
unfolding fips field
block = refl

abbrev small : List ℕ → Bool
small [] = true
small (x ∷ l) = ltb x 256 && small l

bytes : (l : List ℕ) → T (small l) → Bytes l
bytes [] t = tt
bytes (x ∷ l) t = (ltb→lt x 256 (both_left (ltb x 256) (small l) t), bytes l (both_right (ltb x 256) (small l) t))

-- one direction computed, the other with it
and_back : (nk nr : ℕ) (key crypted : List ℕ) → 0 < nr → Bytes key → cipher nr (key_expansion nk nr key) specs.digits ≡ crypted → specs.Both nk nr key crypted
and_back nk nr key crypted p h e =
    let w = key_expansion nk nr key in
    (e, ap (inv_cipher nr w) (sym e) ∙ undone nr w specs.digits p refl (bytes specs.digits tt) (expansion_bytes nk nr key h))

there16 : cipher 10 (key_expansion 4 10 (take 16 specs.count32)) specs.digits ≡ specs.crypted16
unfolding fips field
there16 = refl

pub both16 : specs.Both16
both16 = and_back 4 10 (take 16 specs.count32) specs.crypted16 (lit< tt) (bytes (take 16 specs.count32) tt) there16

there24 : cipher 12 (key_expansion 6 12 (take 24 specs.count32)) specs.digits ≡ specs.crypted24
unfolding fips field
there24 = refl

pub both24 : specs.Both24
both24 = and_back 6 12 (take 24 specs.count32) specs.crypted24 (lit< tt) (bytes (take 24 specs.count32) tt) there24

there32 : cipher 14 (key_expansion 8 14 specs.count32) specs.digits ≡ specs.crypted32
unfolding fips field
there32 = refl

pub both32 : specs.Both32
both32 = and_back 8 14 specs.count32 specs.crypted32 (lit< tt) (bytes specs.count32 tt) there32
