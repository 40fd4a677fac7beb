-- What adding and taking do to one pool, whichever master has it, and what passed checks say; from the definitions of a pool and of checks. Assumes nothing.
use Prim.{tt}
use Prim.Native.Nat.{ℕ, zero, suc, ◌+◌, ◌≤◌, ◌<◌}
use native.Mathlib.Omega.{arith}
use mathlib.Core.Path.{◌≡◌, refl, ap}
use mathlib.Core.Logic.{inl, inr, ⊎_elim}
use mathlib.Core.List.{List, [], ◌∷◌, ◌++◌}
use mathlib.Core.Bool.{Bool, true, false, cond}
use borrow.Author.Tests.{leb-false}
use lib.ListN.{length, length-append}
use lib.Dec.{leb}
use Rattle.refusal.specs.declared.Refusal.{Refusal}
use Rattle.refusal.proofs.First.{true_false, neither}
use Rattle.refusal.specs.Answer.{first, passes}
use Rattle.pool_mirror.specs.Mirror.{Strips, Pool, lowest, rest, put, less, Said, refused, Checks, unless, no_room, none_held, at}
use Rattle.pool_mirror.specs.Claims.{All, In, Above, Upward, Following, Ordered}

-- ---- lists
pub all_map : {A : Type 0} {P Q : A → Type 0} (l : List A) → ((x : A) → P x → Q x) → All P l → All Q l
all_map [] f h = tt
all_map (x ∷ l) f h = (f x h.0, all_map l f h.1)

pub all_append : {A : Type 0} (P : A → Type 0) (k l : List A) → All P k → All P l → All P (k ++ l)
all_append P [] l h g = g
all_append P (x ∷ k) l h g = (h.0, all_append P k l h.1 g)

pub all_at : {A : Type 0} (P : A → Type 0) (k : ℕ) (l : List A) → All P l → All P (at k l)
all_at P k [] h = tt
all_at P zero (x ∷ l) h = (h.0, tt)
all_at P (suc k) (x ∷ l) h = all_at P k l h.1

abbrev pub Among : Strips → Strips → Type 0
Among entered l = All (λ x. In x entered) l

abbrev pub Grows : Strips → Strips → Type 0
Grows k l = (x : ℕ × List ℕ) → In x k → In x l

pub grows_behind : (l k : Strips) (y : ℕ × List ℕ) → Grows (l ++ k) (l ++ (y ∷ k))
grows_behind [] k y x h = inr h
grows_behind (z ∷ l) k y x h = ⊎_elim inl (λ i. inr (grows_behind l k y x i)) h

pub grows_before : (l k : Strips) → Grows k (l ++ k)
grows_before [] k x h = h
grows_before (z ∷ l) k x h = inr (grows_before l k x h)

-- ---- choices and checks: what holds of both ends holds of what is chosen
pub choose_both : {A : Type 0} (P : A → Type 0) (t : Bool) (a b : A) → (t ≡ true → P a) → (t ≡ false → P b) → P (cond t a b)
choose_both P true a b f g = f refl
choose_both P false a b f g = g refl

pub unless_both : {S : Type 0} (P : Said × S → Type 0) (checks : Checks) (state : S) (new : Said × S)
    → (passes checks ≡ true → P new) → ((r : Refusal) → P (refused r, state)) → P (unless checks state new)
unfolding unless passes first
unless_both P [] state new f g = f refl
unless_both P ((n, true) ∷ checks) state new f g = g _
unless_both P ((n, false) ∷ checks) state new f g = unless_both P checks state new f g

-- ---- numbers
-- the numbers are t + 1 to a, in this order
abbrev Row : ℕ → Strips → ℕ → Type 0
Row t [] a = a ≡ t
Row t (x ∷ l) a = (x.0 ≡ suc t) × Row (suc t) l a

row_put : (t : ℕ) (l : Strips) (a : ℕ) (s : List ℕ) → Row t l a → Row t (l ++ ((suc a, s) ∷ [])) (suc a)
row_put t [] a s h = (ap suc h, ap suc h)
row_put t (x ∷ l) a s h = (h.0, row_put (suc t) l a s h.1)

row_sum : (t : ℕ) (l : Strips) (a : ℕ) → Row t l a → a ≡ length l + t
row_sum t [] a h = omega arith
row_sum t (x ∷ l) a h = let e : a ≡ length l + suc t = row_sum (suc t) l a h.1 in omega arith

row_following : (t : ℕ) (l : Strips) (a : ℕ) → Row t l a → Following t l
row_following t [] a h = tt
row_following t (x ∷ l) a h = (h.0, row_following (suc t) l a h.1)

row_above : (t : ℕ) (l : Strips) (a : ℕ) → Row t l a → All (λ x. t < x.0) l
row_above t [] a h = tt
row_above t (x ∷ l) a h = (omega (arith, h.0), all_map l (λ y q. omega arith) (row_above (suc t) l a h.1))

-- the latest first, each number above all before it, and all of them from low to high
pub record Numbered (low high : ℕ) (l : Strips) : Type 0 where
  pub upward : Upward l
  pub between : All (λ x. (low ≤ x.0) × (x.0 ≤ high)) l

pub above : {low high : ℕ} {l : Strips} (n : ℕ) → high < n → Numbered low high l → Above l n
above {l} n h v = all_map l (λ x i. omega arith) v.between

pub numbered_to : {low high high' : ℕ} {l : Strips} → high ≤ high' → Numbered low high l → Numbered low high' l
numbered_to {l} h v = record { upward = v.upward; between = all_map l (λ x i. (i.0, omega arith)) v.between }

pub numbered_next : {low high high' : ℕ} {x : ℕ × List ℕ} {l : Strips} → Above l x.0 → low ≤ x.0 → x.0 ≤ high' → high ≤ high'
    → Numbered low high l → Numbered low high' (x ∷ l)
numbered_next a i j h v = record { upward = (a, v.upward); between = ((i, j), (numbered_to h v).between) }

-- ---- a pool whose counts agree with the numbers that it holds, that holds at most 64, and only what was entered
pub record Whole (entered : Strips) (p : Pool) : Type 0 where
  pub row : Row p.taken p.held p.added
  pub few : length p.held ≤ 64
  pub among : Among entered p.held

pub whole_ordered : {entered : Strips} {p : Pool} → Whole entered p → Ordered p
whole_ordered {p} h = record {
  counted = row_sum p.taken p.held p.added h.row;
  following = row_following p.taken p.held p.added h.row;
  few = h.few;
}

pub whole_above : {entered : Strips} {p : Pool} → Whole entered p → All (λ x. p.taken < x.0) p.held
whole_above {p} h = row_above p.taken p.held p.added h.row

pub whole_more : {k l : Strips} {p : Pool} → Grows k l → Whole k p → Whole l p
whole_more {p} g h = record { row = h.row; few = h.few; among = all_map p.held g h.among }

pub whole_put : {entered : Strips} {p : Pool} (s : List ℕ) → no_room p ≡ false → Whole entered p → Whole ((suc p.added, s) ∷ entered) (put s p)
unfolding put no_room
whole_put {entered} {p} s free h = record {
  row = row_put p.taken p.held p.added s h.row;
  few = simp length-append (omega (arith, leb-false 64 (length p.held) (neither (leb 64 (length p.held)) _ free).0));
  among = all_append (λ x. In x ((suc p.added, s) ∷ entered)) p.held ((suc p.added, s) ∷ []) (all_map p.held (λ x i. inr i) h.among) (inl refl, tt);
}

pub whole_less : {entered : Strips} {p : Pool} → none_held p.held ≡ false → Whole entered p
    → Whole entered (less p) × ((lowest p.held).0 ≡ suc p.taken) × In (lowest p.held) entered
unfolding less
whole_less {entered} {p} e h = go p.held e h.row h.few h.among where
  go : (l : Strips) → none_held l ≡ false → Row p.taken l p.added → length l ≤ 64 → Among entered l
      → Whole entered (record { added = p.added; taken = suc p.taken; held = rest l }) × ((lowest l).0 ≡ suc p.taken) × In (lowest l) entered
  go [] e i f j = absurd (true_false e)
  go (x ∷ l) e i f j = (record { row = i.1; few = omega arith; among = j.1 }, i.0, j.0)
