-- What a fresh nonrecursive decimator keeps over every list of samples: validity and settings by each step, the sums by the closed form of its neighbours, the
-- scaled sums value by value, and each answer as the CIC decimator's, which makes the same of every list.
use mathlib.Core.Path.{◌≡◌, refl, sym, ap, ◌∙◌, subst}
use mathlib.Core.Bool.{Bool, true, false, cond, ◌&&◌}
use mathlib.Core.List.{List, [], ◌∷◌, ◌++◌, map}
use Rattle.std.specs.Prelude.{Option, None, Some}
use Prim.Native.Nat.{ℕ, suc, ◌+◌, ◌-◌, ◌*◌, ◌/◌, ◌%◌, ◌^◌, ◌≤◌, ◌<◌}
use native.Mathlib.Nat.{mod-lt, mod-mod, suc-mul, div-add-mod', mul-le-mul}
use native.Mathlib.Decide.{dec_lt}
use native.Mathlib.Omega.{arith}
use borrow.Author.Tests.{lt-ltb, le-ltb, eqb-true, eq-eqb, ltb-true}
use lib.Arith.{digits_div, digits_mod}
use lib.Dec.{eqb, ltb}
use lib.IntN.{ℤ, pos}
use lib.ListN.{length, get_or, drop, replicate, replicate-append-replicate}
use lib.Pow.{pow_pos}
use lib.Seq.{drop_at}
use mir.Syntax.{w32}
use Rattle.theory.specs.Wrap.{wrap}
use Rattle.theory.specs.Lists.{listed}
use Rattle.theory.specs.Sections.{Section, onto, state, outs}
use Rattle.theory.specs.Feeds.{head_of}
use Rattle.theory.proofs.Sections.{state_keeps, outs_append}
use Rattle.theory.proofs.Machines.{all_alone, lawful_alone}
use Rattle.theory.proofs.Feeds.{promised_by}
use Rattle.theory.proofs.Listed.{map_listed}
use Rattle.integer.specs.Limits.{stages_ok, factor_ok}
use Rattle.integer.specs.Gain.{gain_bits}
use Rattle.integer.specs.MovingSums.{Signal, signal_of, fold, sum_at, scaled_sums}
use Rattle.integer.specs.MovingSums as M
use Rattle.nonrecursive.specs.Nonrecursive.{halved, nonrecursive_sums}
use Rattle.integer.specs.CicDecimator as C
use Rattle.nonrecursive.specs.NonrecursiveDecimator.{halvings, power_of_two, nonrecursive_of, fresh, settings_number, valid_at, valid, Thinned, thinned, next_place, nonrecursive, scaled_nonrecursive, machine, Streams}
use Rattle.nonrecursive.specs.declared.nonrecursive_decimator.NonrecursiveDecimator.{NonrecursiveDecimator}
use Rattle.integer.proofs.Within.{stages_within, factor_within}
use Rattle.integer.proofs.Streaming.{floored, scaled_outs, streams}
use Rattle.nonrecursive.proofs.Nonrecursive.{nonrecursive_sums_lem}
use Rattle.theory.proofs.EveryRth.{every_rth}
use Rattle.nonrecursive.proofs.Halvings.{power_is, few_halvings}
use Rattle.nonrecursive.proofs.Neighbours.{neighbours_at, Thins, thins, neighbours_zero}

-- two sections that make the same of every list answer each sample alike
module _ {S T A B : Type 0} (f : Section S A B) (g : Section T A B) (s : S) (t : T) (same : (w : List A) → outs f s w ≡ outs g t w) where
  head_onto : (o : Option B) → head_of (onto o []) ≡ o
  head_onto None = refl
  head_onto (Some b) = refl

  pub same_out : (w : List A) (x : A) → f.out (state f s w) x ≡ g.out (state g t w) x
  same_out w x =
      let o = f.out (state f s w) x in
      let p = g.out (state g t w) x in
      let l = outs f s w in
      let e : l ++ onto o [] ≡ l ++ onto p [] =
      sym (outs_append f s w (x ∷ [])) ∙ same (w ++ (x ∷ [])) ∙ outs_append g t w (x ∷ []) ∙ ap (λ (k : List B). k ++ onto p []) (sym (same w)) in
      let d : onto o [] ≡ onto p [] = sym (drop_at l (onto o []) (length l) refl) ∙ ap (drop (length l)) e ∙ drop_at l (onto p []) (length l) refl in
      sym (head_onto o) ∙ ap head_of d ∙ head_onto p

pub place_next : (t r : ℕ) → 0 < r → next_place (t % r) r ≡ suc t % r
place_next t r h = go (dec_lt (t % r + 1) r)
  where
    whole : t / r * r + t % r ≡ t
    whole = div-add-mod' t r

    go : Dec (t % r + 1 < r) → next_place (t % r) r ≡ suc t % r
    go (yes l) =
        let e : suc t ≡ t / r * r + (t % r + 1) = omega (arith, whole) in
        ap (λ (b : Bool). cond b (t % r + 1) 0) (lt-ltb (t % r + 1) r l) ∙ sym (ap (λ (n : ℕ). n % r) e ∙ digits_mod (t / r) l)
    go (no l) =
        let e : suc t ≡ suc (t / r) * r + 0 = omega (arith, whole, mod-lt t h, suc-mul (t / r) r) in
        ap (λ (b : Bool). cond b (t % r + 1) 0) (le-ltb (t % r + 1) r (omega arith)) ∙ sym (ap (λ (n : ℕ). n % r) e ∙ digits_mod (suc (t / r)) h)

-- a factor 2^m
module _ (N m : ℕ) (few_stages : N ≤ 8) (few : m ≤ 12) (counted : halvings (2 ^ m) ≡ m) (f : Signal) where
  abbrev r : ℕ
  r = 2 ^ m

  abbrev rest : List ℤ
  rest = replicate (96 - m * N) (pos 0)

  -- after t samples
  abbrev state_at : ℕ → NonrecursiveDecimator
  state_at t = nonrecursive_of N r (neighbours_at N m f t ++ rest) (t % r)

  at : (t : ℕ) → Thins N m f t (t % r) rest
  at t = thins N m f t (t % r) rest (mod-mod t r)

  abbrev does : ℕ → ℕ → Thinned
  does n t = thinned N n (neighbours_at N m f t ++ rest) (t % r) (wrap w32 (f t))

  next_at : (t : ℕ) → nonrecursive.next (state_at t) (f t) ≡ state_at (suc t)
  unfolding nonrecursive
  next_at t =
      ap (λ (n : ℕ). nonrecursive_of N r (does n t).state (next_place (t % r) r)) counted
      ∙ ap (λ (l : List ℤ). nonrecursive_of N r l (next_place (t % r) r)) (at t).neighbours
      ∙ ap (nonrecursive_of N r (neighbours_at N m f (suc t) ++ rest)) (place_next t r (pow_pos m))

  out_at : (t : ℕ) → nonrecursive.out (state_at t) (f t) ≡ (does m t).out
  unfolding nonrecursive
  out_at t = ap (λ (n : ℕ). (does n t).out) counted

  -- output k
  abbrev gives : ℕ → ℤ
  gives k = wrap w32 (fold m (halved N) f k)

  waits_at : (k j : ℕ) → suc j < r → nonrecursive.out (state_at (k * r + j)) (f (k * r + j)) ≡ None
  waits_at k j h =
      let e : suc (k * r + j) ≡ k * r + suc j = omega arith in
      let d : suc (k * r + j) % r ≡ suc j = ap (λ (n : ℕ). n % r) e ∙ digits_mod k h in
      out_at (k * r + j) ∙ (at (k * r + j)).waits (omega (arith, d))

  sums_at : (k j : ℕ) → suc j ≡ r → nonrecursive.out (state_at (k * r + j)) (f (k * r + j)) ≡ Some (gives k)
  sums_at k j h =
      let e : suc (k * r + j) ≡ suc k * r + 0 = omega (arith, suc-mul k r) in
      let d : suc (k * r + j) % r ≡ 0 = ap (λ (n : ℕ). n % r) e ∙ digits_mod (suc k) (pow_pos m) in
      out_at (k * r + j) ∙ (at (k * r + j)).made d ∙ ap (λ (n : ℕ). Some (gives n)) (digits_div k (omega arith))

  waits_next : (k j : ℕ) → suc j < r → nonrecursive.next (state_at (k * r + j)) (f (k * r + j)) ≡ state_at (k * r + suc j)
  waits_next k j h = let e : suc (k * r + j) ≡ k * r + suc j = omega arith in next_at (k * r + j) ∙ ap state_at e

  sums_next : (k j : ℕ) → suc j ≡ r → nonrecursive.next (state_at (k * r + j)) (f (k * r + j)) ≡ state_at (suc k * r + 0)
  sums_next k j h = let e : suc (k * r + j) ≡ suc k * r + 0 = omega (arith, suc-mul k r) in next_at (k * r + j) ∙ ap state_at e

  starts : state_at 0 ≡ fresh N r
  starts =
      let most : m * N ≤ 12 * 8 = mul-le-mul few few_stages in
      let all : m * N + (96 - m * N) ≡ 96 = omega arith in
      ap (λ (l : List ℤ). nonrecursive_of N r (l ++ rest) (0 % r)) (neighbours_zero N m f)
      ∙ ap (λ (l : List ℤ). nonrecursive_of N r l (0 % r)) (replicate-append-replicate (m * N) (96 - m * N) (pos 0) ∙ ap (λ (n : ℕ). replicate n (pos 0)) all)
      ∙ ap (nonrecursive_of N r (replicate 96 (pos 0))) (native.Mathlib.Nat.mod-eq_of_lt (pow_pos m))

  made : (w : List ℤ) → ((i : ℕ) → f i ≡ get_or w i (pos 0)) → outs nonrecursive (fresh N r) w ≡ listed (length w / r) gives
  made w same =
      let o : 0 ≡ 0 * r + 0 = omega arith in
      ap (λ (d : NonrecursiveDecimator). outs nonrecursive d w) (sym starts ∙ ap state_at o)
      ∙ every_rth nonrecursive r (pow_pos m) f (pos 0) (λ k j. state_at (k * r + j)) gives waits_at waits_next sums_at sums_next w same

thinning : (N m : ℕ) → N ≤ 8 → m ≤ 12 → halvings (2 ^ m) ≡ m → (w : List ℤ) → outs nonrecursive (fresh N (2 ^ m)) w ≡ M.sums N (2 ^ m) w
unfolding nonrecursive_sums
thinning N m n l h w =
    made N m n l h (signal_of w) w (λ i. refl) ∙ nonrecursive_sums_lem N m w

-- what the numbers of settings that are not refused are
pub record Sound (N r : ℕ) : Type 0 where
  pub stages : stages_ok N ≡ true
  pub factor : factor_ok r ≡ true
  pub power : power_of_two r ≡ true

pub sound : (N r : ℕ) → settings_number N r ≡ 0 → Sound N r
unfolding settings_number
sound N r e = go (stages_ok N) (factor_ok r) (power_of_two r) refl refl refl e
  where
    go : (a b c : Bool) → stages_ok N ≡ a → factor_ok r ≡ b → power_of_two r ≡ c → ◌≡◌ {A = ℕ} (cond a (cond b (cond c 0 23) 2) 1) 0 → Sound N r
    go true true true s f p z = record { stages = s; factor = f; power = p }
    go true true false s f p z = absurd (omega arith)
    go true false c s f p z = absurd (omega arith)
    go false b c s f p z = absurd (omega arith)

pub valid_parts : (N r place : ℕ) → valid_at N r place ≡ true → (settings_number N r ≡ 0) × (place < r)
unfolding valid_at
valid_parts N r place e = go (eqb (settings_number N r) 0) (ltb place r) refl refl e
  where
    go : (a b : Bool) → eqb (settings_number N r) 0 ≡ a → ltb place r ≡ b → a && b ≡ true → (settings_number N r ≡ 0) × (place < r)
    go true true s p z = (eqb-true (settings_number N r) 0 s, ltb-true place r p)
    go true false s p z = absurd (mathlib.Core.Bool.false≢true z)
    go false b s p z = absurd (mathlib.Core.Bool.false≢true z)

pub valid_from : (N r place : ℕ) → settings_number N r ≡ 0 → place < r → valid_at N r place ≡ true
unfolding valid_at
valid_from N r place s p = rw (eq-eqb (settings_number N r) 0 s, lt-ltb place r p)

next_below : (place r : ℕ) → 0 < r → next_place place r < r
next_below place r h = go (dec_lt (place + 1) r)
  where
    go : Dec (place + 1 < r) → next_place place r < r
    go (yes l) = rw (lt-ltb (place + 1) r l) l
    go (no l) = rw (le-ltb (place + 1) r (let q : r ≤ place + 1 = omega arith in q)) h

pub valid_kept : (d : NonrecursiveDecimator) (x : ℤ) → valid d ≡ true → valid (nonrecursive.next d x) ≡ true
unfolding nonrecursive
valid_kept d x v =
    let s = valid_parts d.stages d.r d.place v in
    valid_from d.stages d.r (next_place d.place d.r) s.0 (next_below d.place d.r (omega (arith, s.1)))

module _ (N r : ℕ) where
  abbrev pub Set : NonrecursiveDecimator → Type 0
  Set d = (d.stages ≡ N) × (d.r ≡ r)

  pub settings_kept : (d : NonrecursiveDecimator) (x : ℤ) → Set d → Set (nonrecursive.next d x)
  unfolding nonrecursive
  settings_kept d x h = h

abbrev bits_of_sums : NonrecursiveDecimator → ℕ
bits_of_sums d = gain_bits d.stages d.r

bits_kept : (d : NonrecursiveDecimator) (x : ℤ) → bits_of_sums (nonrecursive.next d x) ≡ bits_of_sums d
unfolding nonrecursive
bits_kept d x = refl

scaled_sums_made : (d : NonrecursiveDecimator) (w : List ℤ) → outs scaled_nonrecursive d w ≡ map (floored (bits_of_sums d)) (outs nonrecursive d w)
unfolding scaled_nonrecursive
scaled_sums_made = scaled_outs nonrecursive bits_of_sums bits_kept

pub nonrecursive_streams : (N r : ℕ) → settings_number N r ≡ 0 → Streams N r (fresh N r)
nonrecursive_streams N r ok =
    record {
      unrefused = λ w. state_keeps nonrecursive (λ d. valid d ≡ true) valid_kept (fresh N r) w (valid_from N r 0 ok f.0);
      settings = λ w. state_keeps nonrecursive (Set N r) (settings_kept N r) (fresh N r) w (refl, refl);
      sums_made = made;
      scaled_made = λ w.
          let g : ℕ = gain_bits N r in
          scaled_sums_made (fresh N r) w ∙ ap (map (floored g)) (made w)
          ∙ unfold M.sums scaled_sums in map_listed (floored g) (length w / r) (sum_at N r (signal_of w));
      blocks = promised_by machine 0 (λ d. valid d ≡ true) (lawful_alone (pos 0) nonrecursive 0 (λ d. valid d ≡ true) valid_kept) (fresh N r) (valid_from N r 0 ok f.0) (M.sums N r)
          (λ w. all_alone (pos 0) nonrecursive 0 (fresh N r) w ∙ made w);
      as_cic = same_out nonrecursive C.decimator (fresh N r) (C.fresh N r) (λ w. made w ∙ sym ((streams N r s.stages s.factor).sums_made w));
    }
  where
    s : Sound N r
    s = sound N r ok

    f : (1 ≤ r) × (r ≤ 4096)
    f = factor_within r s.factor

    e : r ≡ 2 ^ halvings r
    e = power_is r s.power

    made : (w : List ℤ) → outs nonrecursive (fresh N r) w ≡ M.sums N r w
    made =
        subst (λ (q : ℕ). (w : List ℤ) → outs nonrecursive (fresh N q) w ≡ M.sums N q w) (sym e)
        (thinning N (halvings r) (stages_within N s.stages).1 (few_halvings (halvings r) (subst (λ (q : ℕ). q ≤ 4096) e f.1)) (ap halvings (sym e)))
