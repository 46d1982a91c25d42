-- Two digits, a zero in front where there is one alone, are the tens and the ones: by cases, below ten or not.
use Rattle.std.proofs.Common.{◌≡◌, ℕ, ◌+◌, ◌-◌, ◌/◌, ◌%◌, ◌^◌, ◌<◌, ◌≤◌, List, [], ◌∷◌, ◌++◌, false, append_assoc, codes, decimal, refl, ap, subst, sym, ◌∙◌, arith, inl, inr}
use Rattle.std.specs.Prelude.{◌⊎◌, OnOk, Option, Result}
use Rattle.std.specs.Io.KnownBytes.{Appends}
use Rattle.std.proofs.lemmas.Bool.{cases_lt}
use Rattle.std.proofs.lemmas.Fmt.{decimal_step, decimal_digit}
use Rattle.std.specs.Fmt.{char_count, format_spec, padded_integral}

abbrev pub filled : List ℕ → List ℕ
filled = padded_integral (format_spec 32 0 4 2 (2 ^ 64 - 1)) false []

below_ten : (d : ℕ) → filled (d ∷ []) ≡ 48 ∷ d ∷ []
unfolding padded_integral char_count
below_ten d = refl

from_ten : (t d : ℕ) → filled (t ∷ d ∷ []) ≡ t ∷ d ∷ []
unfolding padded_integral char_count
from_ten t d = refl

by_size : (n : ℕ) → n < 100 → (n < 10) ⊎ (10 ≤ n) → filled (decimal n) ≡ decimal (n / 10) ++ decimal (n % 10)
by_size n h (inl l) =
    let t : n / 10 ≡ 0 = omega arith in
    let d : n % 10 ≡ n = omega arith in
    rw (t, d, decimal_digit 0 (omega arith), decimal_digit n l) (below_ten (48 + n))
by_size n h (inr l) =
    rw (decimal_step n l (omega arith), decimal_digit (n / 10) (omega arith), decimal_digit (n % 10) (omega arith)) (from_ten (48 + n / 10) (48 + n % 10))

tens : (n : ℕ) → n % 100 / 10 ≡ n / 10 % 10
tens n = omega arith

ones : (n : ℕ) → n % 100 % 10 ≡ n % 10
ones n = omega arith

two_places : (n : ℕ) → filled (decimal (n % 100)) ≡ decimal (n / 10 % 10) ++ decimal (n % 10)
two_places n = by_size (n % 100) (omega arith) (cases_lt (n % 100) 10) ∙ ap (λ t. decimal t ++ decimal (n % 100 % 10)) (tens n) ∙ ap (λ d. decimal (n / 10 % 10) ++ decimal d) (ones n)

-- what was appended, told by its digits
pub told : {T E : Type 0} (r : Result T E) (a b : Option (List ℕ)) (n : ℕ) (text : List ℕ) → text ≡ filled (decimal (n % 100))
    → OnOk r (Appends a b (decimal (n / 100) ++ (codes "." ++ text)))
    → OnOk r (Appends a b (decimal (n / 100) ++ codes "." ++ decimal (n / 10 % 10) ++ decimal (n % 10)))
told r a b n text e p =
    let front = decimal (n / 100) in
    let t = decimal (n / 10 % 10) in
    let d = decimal (n % 10) in
    subst (λ w. OnOk r (Appends a b w))
    (ap (λ w. front ++ (codes "." ++ w)) (e ∙ two_places n) ∙ sym (append_assoc front (codes ".") (t ++ d)) ∙ sym (append_assoc (front ++ codes ".") t d)) p
