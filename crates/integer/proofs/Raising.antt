-- A block of samples into an interpolator: after i of them their outputs stand in front of the span, and the stages are as they leave them. A sample may go into the
-- first integrator by itself, and zeros through all of them then, since a wrapped sum takes a zero and stays. Lists joined are raised one after the other, so
-- every cutting into blocks is the whole list.
use Rattle.std.proofs.Common.{◌≡◌, ℕ, zero, suc, ◌+◌, ◌*◌, ◌<◌, ◌≤◌, Bool, true, false, cond, ltb, leb, Option, None, Some, IfSome, Bor, List, [], ◌∷◌, ◌++◌, length, get_or, take, drop, ℤ, pos, ◌+ℤ◌, sym, refl, ap, ◌∙◌, append_assoc, append-nil, mul-le-mul_right, suc-mul, add-mul, one-mul, zero-mul, add-one, arith, length-append, length-drop, length-take-le, take_all, take-suc, drop-drop, take_at, drop_at, w32, ltb-true, ltb-false}
use lib.IntN.{+ℤ_idr}
use Rattle.std.specs.List.{slice_get}
use Rattle.std.specs.Option.{is_some, option_copied, option_map_or}
use Rattle.std.proofs.lemmas.Option.{slice_get-get_or, slice_get_past, slice_get_read}
use Rattle.theory.specs.Feeds.{Feedings, opened, fed}
use Rattle.theory.specs.Wrap.{wrap}
use Rattle.theory.proofs.Wrap.{wrap_wrap}
use Rattle.refusal.specs.Outcome.{Outcome}
use Rattle.refusal.specs.declared.Moved.{Moved}
use Rattle.integer.specs.Stages.{row, integrated, combed, sum32}
use Rattle.integer.specs.CicInterpolator.{interpolator_of, valid, Filled, filled, ahead, raised, next, outs, state, block_taken, block, block_outs, block_span, state_of, taken_by_blocks, written_by_blocks}
use Rattle.integer.specs.declared.cic_interpolator.CicInterpolator.{CicInterpolator}
use Rattle.integer.proofs.Row.{long_kept}
use Rattle.integer.proofs.Filling.{filled_behind, front_kept}

-- a wrapped sum takes a zero and stays
stays : (a v : ℤ) → sum32 a v ≡ sum32 (sum32 a v) (pos 0)
stays a v = sym (ap (wrap w32) (+ℤ_idr (sum32 a v)) ∙ wrap_wrap w32 (a +ℤ v))

entered : (n : ℕ) (s : List ℤ) (v : ℤ) (k : ℕ) → 1 ≤ n → 0 < length s → 1 ≤ k → filled n s v k ≡ filled n (integrated 1 s v).state (pos 0) k
unfolding filled integrated
entered (suc n) (a ∷ s) v (suc k) hn hs hk =
    ap (λ u. ahead (row sum32 sum32 n s u).val (filled (suc n) (u ∷ (row sum32 sum32 n s u).state) (pos 0) k)) (stays a v)
entered zero s v k hn hs hk = absurd (omega arith)
entered (suc n) [] v k hn hs hk = absurd (omega arith)
entered (suc n) (a ∷ s) v zero hn hs hk = absurd (omega arith)

filled_outs : (n : ℕ) (s : List ℤ) (v : ℤ) (k : ℕ) → length (filled n s v k).outs ≡ k
unfolding filled
filled_outs n s v zero = refl
filled_outs n s v (suc k) = ap suc (filled_outs n (integrated n s v).state (pos 0) k)

filled_long : (n : ℕ) (s : List ℤ) (v : ℤ) (k : ℕ) → length (filled n s v k).state ≡ length s
unfolding filled integrated
filled_long n s v zero = refl
filled_long n s v (suc k) = filled_long n (integrated n s v).state (pos 0) k ∙ long_kept sum32 sum32 n s v

-- r outputs of each sample
outs_long : (d : CicInterpolator) (w : List ℤ) → length (outs d w) ≡ length w * d.r
outs_long d [] = sym (zero-mul d.r)
outs_long d (x ∷ w) =
    let e = length-append (raised d x).outs (outs (next d x) w) in
    let a = filled_outs d.stages d.integrator_state (combed d.stages d.comb_state x).val d.r in
    let b = outs_long (next d x) w in
    omega (arith, e, a, b, suc-mul (length w) d.r)

-- a list behind another
outs_joined : (d : CicInterpolator) (v w : List ℤ) → outs d (v ++ w) ≡ outs d v ++ outs (state d v) w
outs_joined d [] w = refl
outs_joined d (x ∷ v) w = ap (λ l. (raised d x).outs ++ l) (outs_joined (next d x) v w) ∙ sym (append_assoc (raised d x).outs (outs (next d x) v) (outs (state (next d x) v) w))

state_joined : (d : CicInterpolator) (v w : List ℤ) → state d (v ++ w) ≡ state (state d v) w
state_joined d [] w = refl
state_joined d (x ∷ v) w = state_joined (next d x) v w

-- samples keep the number of integrators, and those behind the stages
state_long : (d : CicInterpolator) (w : List ℤ) → length (state d w).integrator_state ≡ length d.integrator_state
state_long d [] = refl
state_long d (x ∷ w) = state_long (next d x) w ∙ filled_long d.stages d.integrator_state (combed d.stages d.comb_state x).val d.r

state_behind : (d : CicInterpolator) (w : List ℤ) → drop d.stages (state d w).integrator_state ≡ drop d.stages d.integrator_state
state_behind d [] = refl
state_behind d (x ∷ w) = state_behind (next d x) w ∙ filled_behind d.stages d.integrator_state (combed d.stages d.comb_state x).val d.r

-- the sample that `get` looks up
pub looked_up : {A : Type 0} (o : Option (Bor A)) (w : List A) (i : ℕ) → is_some o ≡ ltb i (length w) → IfSome o (λ x. x.now ≡ get_or w i x.now) → option_copied o ≡ slice_get w i
looked_up None w i e h = sym (slice_get_past w i (ltb-false i (length w) (sym e)))
looked_up (Some x) w i e h = sym (slice_get_read w (length w) i x.now refl (ltb-true i (length w) (sym e)) h)

-- room for the outputs of one sample more
pub room : (r count places taken written : ℕ) → written ≡ taken * r → taken < count → count * r ≤ places → written + r ≤ places
room r count places taken written e h fits =
    let n : taken + 1 ≤ count = omega arith in
    omega (arith, mul-le-mul_right r n, add-mul taken 1 r, one-mul r)

module _ (N r : ℕ) (combs₀ integrators : List ℤ) (w span : List ℤ) where
  abbrev d : CicInterpolator
  d = interpolator_of N r combs₀ integrators

  -- after `taken` samples
  pub record Raised (combs held out : List ℤ) (taken written : ℕ) : Type 0 where
    pub within : taken ≤ length w
    pub at : written ≡ taken * r
    pub left : interpolator_of N r combs held ≡ state d (take taken w)
    pub made : out ≡ outs d (take taken w) ++ drop (taken * r) span

  starts : Raised combs₀ integrators span 0 0
  starts = record { within = omega arith; at = sym (zero-mul r); left = refl; made = ap (λ k. drop k span) (sym (zero-mul r)) }

  -- so many outputs are made
  many : (i : ℕ) → i ≤ length w → length (outs d (take i w)) ≡ i * r
  many i h = outs_long d (take i w) ∙ ap (λ n. n * r) (length-take-le i w h)

  same_span : (combs held out : List ℤ) (taken written : ℕ) → Raised combs held out taken written → length w * r ≤ length span → length out ≡ length span
  same_span combs held out taken written l fits =
      let e : length out ≡ length (outs d (take taken w)) + length (drop (taken * r) span) = ap length l.made ∙ length-append (outs d (take taken w)) (drop (taken * r) span) in
      omega (arith, e, many taken l.within, length-drop (taken * r) span, mul-le-mul_right r l.within)

  goes_on : (combs held out : List ℤ) (i j : ℕ) → 1 ≤ N → 1 ≤ r → 0 < length integrators → i < length w → Raised combs held out i j →
      let x = get_or w i (pos 0) in
      let f = filled N (integrated 1 held (combed N combs x).val).state (pos 0) r in
      Raised (combed N combs x).state f.state (take j out ++ (f.outs ++ drop r (drop j out))) (i + 1) (j + r)
  goes_on combs held out i j h_n hr some h l =
      let x = get_or w i (pos 0) in
      let v = (combed N combs x).val in
      let f = filled N (integrated 1 held v).state (pos 0) r in
      let s = state d (take i w) in
      let p = outs d (take i w) in
      let long : 0 < length held = (let e = ap (λ (q : CicInterpolator). length q.integrator_state) l.left ∙ state_long d (take i w) in omega (arith, e)) in
      let same : filled N held v r ≡ f = entered N held v r h_n long hr in
      let t : take i w ++ (x ∷ []) ≡ take (i + 1) w = sym (ap (λ k. take k w) (add-one i) ∙ take-suc w i (pos 0) (omega arith)) in
      let many_i : length p ≡ j = many i (omega arith) ∙ sym l.at in
      let front : take j out ≡ p = ap (take j) l.made ∙ take_at p (drop (i * r) span) j many_i in
      let behind : drop j out ≡ drop (i * r) span = ap (drop j) l.made ∙ drop_at p (drop (i * r) span) j many_i in
      let next_at : i * r + r ≡ (i + 1) * r = omega (arith, add-mul i 1 r, one-mul r) in
      let raised_is : raised s x ≡ f = ap (λ (q : CicInterpolator). raised q x) (sym l.left) ∙ same in
      record {
        within = omega arith;
        at = omega (arith, l.at, next_at);
        left =
            ap (λ (q : Filled). interpolator_of N r (combed N combs x).state q.state) (sym same)
            ∙ ap (λ (q : CicInterpolator). next q x) l.left
            ∙ sym (state_joined d (take i w) (x ∷ [])) ∙ ap (state d) t;
        made =
            ap (λ q. q ++ (f.outs ++ drop r (drop j out))) front
            ∙ ap (λ q. p ++ (f.outs ++ q)) (ap (drop r) behind ∙ drop-drop r (i * r) span ∙ ap (λ k. drop k span) next_at)
            ∙ sym (append_assoc p f.outs (drop ((i + 1) * r) span))
            ∙ ap (λ q. (p ++ q) ++ drop ((i + 1) * r) span) (sym (append-nil (raised s x).outs ∙ ap (λ (q : Filled). q.outs) raised_is))
            ∙ ap (λ q. q ++ drop ((i + 1) * r) span) (sym (outs_joined d (take i w) (x ∷ [])) ∙ ap (outs d) t);
      }

  -- the same with the next sample entered, if there is one: through the combs, and into the first integrator
  pub record Entered (combs held out : List ℤ) (i j : ℕ) : Type 0 where
    pub combs₁ : List ℤ
    pub held₁ : List ℤ
    pub before : Raised combs₁ held₁ out i j
    pub kept : combs ≡ option_map_or (λ x. (combed N combs₁ x).state) (slice_get w i) combs₁
    pub summed : held ≡ option_map_or (λ x. (integrated 1 held₁ (combed N combs₁ x).val).state) (slice_get w i) held₁

  pub span_kept : {combs held out : List ℤ} {taken written : ℕ} → Entered combs held out taken written → length w * r ≤ length span → length out ≡ length span
  span_kept l fits = same_span _ _ _ _ _ l.before fits

  -- its outputs are written in the places from j on
  pub written_out : {combs held out : List ℤ} {i j : ℕ} → 1 ≤ N → 1 ≤ r → 0 < length integrators → i < length w → Entered combs held out i j →
      let f = filled N held (pos 0) r in
      Raised combs f.state (take j out ++ (f.outs ++ drop r (drop j out))) (i + 1) (j + r)
  written_out {combs} {held} {out} {i} {j} h_n hr some h l =
      let yes = slice_get-get_or w i (pos 0) h in
      let k = rw yes at l.kept in
      let s = rw yes at l.summed in
      rw (s, k) (goes_on l.combs₁ l.held₁ out i j h_n hr some h l.before)

  -- all of them, the stages in use written back in front of those behind them
  pub done : {combs held out : List ℤ} {taken written : ℕ} → length w ≤ taken → Entered combs held out taken written →
      (interpolator_of N r combs (take N held ++ drop N integrators) ≡ state d w) × (out ≡ outs d w ++ drop (length w * r) span)
  done {combs} {held} {out} {taken} h a =
      let l = a.before in
      let no = slice_get_past w taken h in
      let k = rw no at a.kept in
      let s = rw no at a.summed in
      let e : taken ≡ length w = omega (arith, l.within) in
      let all : take taken w ≡ w = take_all taken w h in
      let behind : drop N a.held₁ ≡ drop N integrators = ap (λ (q : CicInterpolator). drop N q.integrator_state) l.left ∙ state_behind d (take taken w) in (
        rw (s, k) (ap (interpolator_of N r a.combs₁) (front_kept N a.held₁ integrators behind) ∙ l.left ∙ ap (state d) all),
        l.made ∙ ap (λ p. outs d p ++ drop (taken * r) span) all ∙ ap (λ k. outs d w ++ drop (k * r) span) e,
      )

-- a block that is not refused: as many samples as there are, and as the span has r places for
pub block_is : (d : CicInterpolator) (w span : List ℤ) → valid d ≡ true → leb d.r (length span) ≡ true → (n : ℕ) → n ≡ block_taken d w (length span)
    → (after : CicInterpolator) (out : List ℤ) → after ≡ state d (take n w) → out ≡ outs d (take n w) ++ drop (n * d.r) span
    → (record { number = 0; value = record { taken = n; written = n * d.r }; state = after } ≡ block d w (length span)) × (out ≡ block_span d w span)
unfolding block block_outs
block_is d w span ok fits n e after out left made = (rw (ok, fits, left, e), rw (ok, fits, made, e))

-- a block, refused or not, raises the samples that it takes
one_block : (s : CicInterpolator) (w : List ℤ) (places : ℕ) →
    ((block s w places).state ≡ state s (take (block s w places).value.taken w)) × (block_outs s w places ≡ outs s (take (block s w places).value.taken w))
unfolding block block_outs
one_block s w places = go (valid s) (leb s.r places)
  where
    n : ℕ
    n = block_taken s w places

    answer : Bool → Bool → Outcome Moved CicInterpolator
    answer b c =
        cond b
        (cond c (record { number = 0; value = record { taken = n; written = n * s.r }; state = state s (take n w) })
        (record { number = 4; value = record { taken = 0; written = 0 }; state = s }))
        (record { number = 15; value = record { taken = 0; written = 0 }; state = s })

    go : (b c : Bool) → ((answer b c).state ≡ state s (take (answer b c).value.taken w)) × (cond b (cond c (outs s (take n w)) []) [] ≡ outs s (take (answer b c).value.taken w))
    go true true = (refl, refl)
    go true false = (refl, refl)
    go false c = (refl, refl)

-- and so does every history of blocks
pub joined : (d : CicInterpolator) (h : Feedings ℤ) → (state_of d h ≡ state d (taken_by_blocks d h)) × (written_by_blocks d h ≡ outs d (taken_by_blocks d h))
joined d opened = (refl, refl)
joined d (fed h w places) =
    let before = joined d h in
    let t = take (block (state_of d h) w places).value.taken w in
    let b = one_block (state_of d h) w places in (
      b.0 ∙ ap (λ s. state s t) before.0 ∙ sym (state_joined d (taken_by_blocks d h) t),
      ap (λ l. written_by_blocks d h ++ l) (b.1 ∙ ap (λ s. outs s t) before.0) ∙ ap (λ l. l ++ outs (state d (taken_by_blocks d h)) t) before.1 ∙ sym (outs_joined d (taken_by_blocks d h) t),
    )
