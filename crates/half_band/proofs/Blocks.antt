-- A section run by a loop over the front of a list: one more value, and what it leaves in a span filled from the front.
use mathlib.Core.Path.{◌≡◌, refl, sym, ap, ◌∙◌}
use mathlib.Core.List.{List, [], ◌∷◌, ◌++◌, append-nil, append_assoc}
use Rattle.std.specs.Prelude.{Option, Some}
use Prim.Native.Nat.{ℕ, suc, ◌+◌, ◌-◌, ◌≤◌, ◌<◌}
use native.Mathlib.Numerals.{add-one}
use native.Mathlib.Omega.{arith}
use lib.ListN.{length, get_or, set, take, drop, length-set, length-append, length-drop, drop_of_length-le}
use borrow.Rule.Slice.PartMut.{post_of}
use lib.Seq.{take-suc, take_all, take_at, drop_at, take-add, drop-drop}
use Rattle.theory.specs.Sections.{Section, onto, state, outs}
use Rattle.theory.proofs.Sections.{state_append, outs_append}
use Rattle.half_band.proofs.Filling.{store_next}

take_next : {A : Type 0} (v : List A) (i : ℕ) (z : A) → i < length v → take (i + 1) v ≡ take i v ++ (get_or v i z ∷ [])
take_next v i z h = ap (λ (n : ℕ). take n v) (add-one i) ∙ take-suc v i z h

module _ {S A B : Type 0} (f : Section S A B) (s : S) (v : List A) (i : ℕ) (z : A) (h : i < length v) where
  pub state_next : state f s (take (i + 1) v) ≡ f.next (state f s (take i v)) (get_or v i z)
  state_next = ap (state f s) (take_next v i z h) ∙ state_append f s (take i v) (get_or v i z ∷ [])

  pub outs_next : (o : Option B) → f.out (state f s (take i v)) (get_or v i z) ≡ o → outs f s (take (i + 1) v) ≡ outs f s (take i v) ++ onto o []
  outs_next o e =
      ap (outs f s) (take_next v i z h)
      ∙ outs_append f s (take i v) (get_or v i z ∷ [])
      ∙ ap (λ (t : Option B). outs f s (take i v) ++ onto t []) e

  -- the span with the outputs so far, and one more
  pub span_next : (y : B) (k : ℕ) (d : List B) → f.out (state f s (take i v)) (get_or v i z) ≡ Some y → length (outs f s (take i v)) ≡ k → k < length d
      → set (outs f s (take i v) ++ drop k d) k y ≡ outs f s (take (i + 1) v) ++ drop (k + 1) d
  span_next y k d e l g =
      ap (λ (n : ℕ). set (outs f s (take i v) ++ drop n d) n y) (sym l)
      ∙ store_next (outs f s (take i v)) d y (omega arith)
      ∙ ap (λ (n : ℕ). (outs f s (take i v) ++ (y ∷ [])) ++ drop (n + 1) d) l
      ∙ ap (λ (t : List B). t ++ drop (k + 1) d) (sym (outs_next (Some y) e))

-- a section that makes an output of every value
pub outs_length : {S A B : Type 0} (f : Section S A B) (made : S → A → B) → ((s : S) (a : A) → f.out s a ≡ Some (made s a)) → (s : S) (w : List A) → length (outs f s w) ≡ length w
outs_length f made e s [] = refl
outs_length {B = B} f made e s (a ∷ w) = ap (λ (o : Option B). length (onto o (outs f (f.next s a) w))) (e s a) ∙ ap suc (outs_length f made e (f.next s a) w)

-- after i values of v from the state s: the state, and a span d that began as d₀ and has k outputs in front
pub record Emitted {S A B : Type 0} (f : Section S A B) (s : S) (v : List A) (d₀ : List B) (t : S) (d : List B) (i k : ℕ) : Type 0 where
  pub state_is : t ≡ state f s (take i v)
  pub count_is : length (outs f s (take i v)) ≡ k
  pub span_is : d ≡ outs f s (take i v) ++ drop k d₀
  pub same : length d ≡ length d₀

-- all values are taken, and the span is full
pub emitted_all : {S A B : Type 0} (f : Section S A B) (s : S) (v : List A) (d₀ : List B) (t : S) (d : List B) (i k : ℕ) → Emitted f s v d₀ t d i k
    → length v ≤ i → length d₀ ≤ k → (t ≡ state f s v) × (d ≡ outs f s v)
emitted_all {B = B} f s v d₀ t d i k q taken full =
    let all = take_all i v taken in (
      q.state_is ∙ ap (state f s) all,
      q.span_is ∙ ap (λ (l : List B). outs f s (take i v) ++ l) (drop_of_length-le d₀ full) ∙ append-nil (outs f s (take i v)) ∙ ap (outs f s) all,
    )

-- m values more, and their c outputs put behind those that are there
pub emitted_many :
    {S A B : Type 0} (f : Section S A B) (s : S) (v : List A) (d₀ : List B) (t : S) (d : List B) (i k : ℕ) → Emitted f s v d₀ t d i k
    → (m c : ℕ) (u : S) (y : List B) → u ≡ state f t (take m (drop i v)) → y ≡ outs f t (take m (drop i v)) → length y ≡ c → length (take k d ++ (y ++ drop c (drop k d))) ≡ length d
    → Emitted f s v d₀ u (take k d ++ (y ++ drop c (drop k d))) (i + m) (k + c)
emitted_many {S} {A} {B} f s v d₀ t d i k q m c u y eu ey ec el =
    record {
      state_is = eu ∙ ap (λ (x : S). state f x w) q.state_is ∙ sym (ap (state f s) (take-add i m v) ∙ state_append f s (take i v) w);
      count_is = ap length all ∙ length-append before y ∙ ap (λ (n : ℕ). n + length y) q.count_is ∙ ap (λ (n : ℕ). k + n) ec;
      span_is =
          ap (λ (l : List B). take k l ++ (y ++ drop c (drop k l))) q.span_is
          ∙ ap (λ (l : List B). l ++ (y ++ drop c (drop k (before ++ drop k d₀)))) (take_at before (drop k d₀) k q.count_is)
          ∙ ap (λ (l : List B). before ++ (y ++ drop c l)) (drop_at before (drop k d₀) k q.count_is)
          ∙ ap (λ (l : List B). before ++ (y ++ l)) (drop-drop c k d₀)
          ∙ sym (append_assoc before y (drop (k + c) d₀))
          ∙ ap (λ (l : List B). l ++ drop (k + c) d₀) (sym all);
      same = el ∙ q.same;
    }
  where
    w : List A
    w = take m (drop i v)

    before : List B
    before = outs f s (take i v)

    all : outs f s (take (i + m) v) ≡ outs f s (take i v) ++ y
    all =
        ap (outs f s) (take-add i m v)
        ∙ outs_append f s (take i v) (take m (drop i v))
        ∙ ap (λ (l : List B). outs f s (take i v) ++ l) (ap (λ (x : S). outs f x (take m (drop i v))) (sym q.state_is) ∙ sym ey)

-- one more value, at which the section makes an output for the next place
module _ {S A B : Type 0} (f : Section S A B) (s : S) (v : List A) (d₀ : List B) (t : S) (d : List B) (i k : ℕ) (z : A)
    (q : Emitted f s v d₀ t d i k) (h : i < length v) (u : S) (next : u ≡ f.next t (get_or v i z)) where
  moved_on : u ≡ state f s (take (i + 1) v)
  moved_on = next ∙ ap (λ (x : S). f.next x (get_or v i z)) q.state_is ∙ sym (state_next f s v i z h)

  made_of : (o : Option B) → f.out t (get_or v i z) ≡ o → f.out (state f s (take i v)) (get_or v i z) ≡ o
  made_of o e = ap (λ (x : S). f.out x (get_or v i z)) (sym q.state_is) ∙ e

  -- how many there are then
  count_more : (y : B) → f.out t (get_or v i z) ≡ Some y → length (outs f s (take (i + 1) v)) ≡ k + 1
  count_more y e = ap length (outs_next f s v i z h (Some y) (made_of (Some y) e)) ∙ length-append (outs f s (take i v)) (y ∷ []) ∙ ap (λ (n : ℕ). n + 1) q.count_is

  pub emitted_one : (y : B) → f.out t (get_or v i z) ≡ Some y → k < length d₀ → Emitted f s v d₀ u (set d k y) (i + 1) (k + 1)
  emitted_one y e g =
      record {
        state_is = moved_on;
        count_is = count_more y e;
        span_is = ap (λ (l : List B). set l k y) q.span_is ∙ span_next f s v i z h y k d₀ (made_of (Some y) e) q.count_is g;
        same = length-set d k y ∙ q.same;
      }

-- a span written in two parts, one behind the other
pub two_parts :
    {B : Type 0} (f : ℕ) (d₀ y z : List B) → length y ≡ f → f ≤ length d₀
    → take f (y ++ drop f d₀) ++ (z ++ post_of f (length (y ++ drop f d₀) - f) (y ++ drop f d₀)) ≡ y ++ z
two_parts {B = B} f d₀ y z long room =
    ap (λ (l : List B). l ++ (z ++ post_of f (length (y ++ drop f d₀) - f) (y ++ drop f d₀))) (take_at y (drop f d₀) f long)
    ∙ ap (λ (l : List B). y ++ (z ++ l)) (drop_of_length-le (drop f (y ++ drop f d₀)) {i = length (y ++ drop f d₀) - f} (omega (arith, length-drop f (y ++ drop f d₀))))
    ∙ ap (λ (l : List B). y ++ l) (append-nil z)
