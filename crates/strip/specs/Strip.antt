-- What a strip is, on its list of bytes; when each refusal applies to it; which part of it is a record; and what is left of it when it has served.
use Rattle.std.specs.Prelude.{ℕ, ◌+◌, ◌-◌, ◌*◌, List, [], ◌∷◌, ◌++◌, Bool, false, not, cond, ◌&&◌, ◌||◌, length, get_or, take, drop, set, replicate, eqb, ltb, Ok, Err}
use Rattle.refusal.specs.Answer.{Answer, first, above, is_not, none_of}

-- rule 3.2: how many bytes follow the length field, the version, the key size, and the number of record bytes
abbrev pub length_field : List ℕ → ℕ
length_field s = get_or s 0 0 * 256 + get_or s 1 0

abbrev pub version : List ℕ → ℕ
version s = get_or s 2 0

abbrev pub key_size : List ℕ → ℕ
key_size s = get_or s 3 0

abbrev pub record_bytes : List ℕ → ℕ
record_bytes s = length s - 4

-- the forms of a strip: its version, its key size and its number of record bytes, three for each of 160, 192 or 224 S-boxes
abbrev pub forms : List (ℕ × (ℕ × ℕ))
forms = (1, (16, 3 * 160)) ∷ (1, (24, 3 * 192)) ∷ (1, (32, 3 * 224)) ∷ []

abbrev pub same_form : (ℕ × (ℕ × ℕ)) → (ℕ × (ℕ × ℕ)) → Bool
same_form (v, (k, n)) (w, (l, m)) = eqb v w && (eqb k l && eqb n m)

-- whether something holds of one of a list
abbrev pub some : {A : Type 0} → (A → Bool) → List A → Bool
some p [] = false
some p (x ∷ xs) = p x || some p xs

-- 7: too short for its first four bytes, or a length field that is not its size less 2
unfoldable pub bad_framing : List ℕ → Bool
bad_framing s = ltb (length s) 4 || is_not (length s - 2) (length_field s)

-- 11: spent
unfoldable pub spent : List ℕ → Bool
spent s = eqb (version s) 0

-- 8: neither spent nor of the version of a form
unfoldable pub unknown_version : List ℕ → Bool
unknown_version s = not (eqb (version s) 0 || some (λ f. eqb (version s) f.0) forms)

-- 12: no form has this key size and this number of record bytes
unfoldable pub wrong_record_bytes : List ℕ → Bool
wrong_record_bytes s = not (some (same_form (version s, (key_size s, record_bytes s))) forms)

-- 10: a record with a third byte above 3
unfoldable pub bad_third : List ℕ → Bool
bad_third [] = false
bad_third (a ∷ []) = false
bad_third (a ∷ b ∷ []) = false
bad_third (a ∷ b ∷ third ∷ records) = above 3 third || bad_third records

abbrev pub bad_record : List ℕ → Bool
bad_record s = bad_third (drop 4 s)

-- a strip's own refusals, in their order, each with whether it applies; which key sizes 9 refuses is for the call to say
abbrev pub check_list : List ℕ → Bool → List (ℕ × Bool)
check_list s other_size =
    (7, bad_framing s) ∷ (11, spent s) ∷ (8, unknown_version s) ∷ (9, other_size) ∷ (12, wrong_record_bytes s) ∷ (10, bad_record s) ∷ []

-- for a block, another key size than that of its round keys; else, one that is none of the three
abbrev pub block_checks : List ℕ → ℕ → List (ℕ × Bool)
block_checks s size = check_list s (is_not size (key_size s))

abbrev pub own_checks : List ℕ → List (ℕ × Bool)
own_checks s = check_list s (none_of (16 ∷ 24 ∷ 32 ∷ []) (key_size s))

-- what the check of a strip answers, for a block and by itself
abbrev pub form_of : List ℕ → ℕ → Answer (Unit {0})
form_of s size = first (block_checks s size) Err (Ok tt)

abbrev pub own_form_of : List ℕ → Answer (Unit {0})
own_form_of s = first (own_checks s) Err (Ok tt)

-- rule 3.4: the record of an index, from the fifth byte on; nothing where the whole record is not there
unfoldable pub whole_record : List ℕ → ℕ → List ℕ
whole_record s index = cond (ltb (length s) (4 + 3 * index + 3)) [] (take 3 (drop (4 + 3 * index) s))

-- nor where 7, 8 or 11 applies to the strip
abbrev pub reading_checks : List ℕ → List (ℕ × Bool)
reading_checks s = (7, bad_framing s) ∷ (8, unknown_version s) ∷ (11, spent s) ∷ []

abbrev pub record_part : List ℕ → ℕ → List ℕ
record_part s index = first (reading_checks s) (λ _. []) (whole_record s index)

-- rule 3.3: what is left of a strip that has served
unfoldable pub wiped : List ℕ → List ℕ
wiped s = take 4 (set s 2 0) ++ replicate (record_bytes s) 0
