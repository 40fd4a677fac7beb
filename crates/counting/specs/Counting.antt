-- How many numbers, and how many lists of numbers, pass a test; and how often each value comes up.
use Rattle.std.specs.Prelude.{ℕ, zero, suc, ◌+◌, ◌*◌, Bool, true, false, cond, List, [], ◌∷◌, ltb}

abbrev pub one : Bool → ℕ
one true = 1
one false = 0

-- f added over the numbers below n
unfoldable pub sum : ℕ → (ℕ → ℕ) → ℕ
sum zero f = 0
sum (suc n) f = f n + sum n f

-- how many numbers below n pass a test
unfoldable pub count : ℕ → (ℕ → Bool) → ℕ
count n test = sum n (λ w. one (test w))

-- f added over the lists whose numbers are below those of the first list, place by place: settings too many for one number to be read
unfoldable pub over : List ℕ → (List ℕ → ℕ) → ℕ
over [] f = f []
over (n ∷ ns) f = sum n (λ x. over ns (λ l. f (x ∷ l)))

-- how many such lists there are
unfoldable pub product : List ℕ → ℕ
product [] = 1
product (n ∷ ns) = n * product ns

-- how often v comes up where zero and each other value below a bound do so many times, and no value does that is not below it
abbrev pub share : ℕ → ℕ → ℕ → ℕ → ℕ
share values nought others zero = nought
share values nought others (suc v) = cond (ltb (suc v) values) others 0
