-- What the functions of this crate leave is a batch of the machine from their section on: each section's block in its laws, one section before the other.
use mathlib.Core.Path.{◌≡◌, refl, sym, ap, ap₂, ◌∙◌, subst, subst⁻¹}
use mathlib.Core.Bool.{Bool, true, false, cond, ◌&&◌}
use mathlib.Core.List.{List, [], ◌∷◌, ◌++◌, map, append-nil}
use Rattle.std.specs.Prelude.{Option, None, Some, Result, Ok, Err}
use Rattle.std.specs.Result.{result_unwrap_or}
use Prim.Native.Nat.{ℕ, zero, suc, ◌+◌, ◌-◌, ◌^◌, ◌≤◌, ◌<◌, min, suc-le-suc}
use native.Mathlib.Nat.{le_trans}
use native.Mathlib.Omega.{arith}
use borrow.Author.Tests.{le-leb}
use borrow.Rule.Slice.PartMut.{put_mid}
use lib.IntN.{ℤ, pos}
use lib.Ieee.{Float, lt}
use lib.ListN.{length, take, drop, length-drop, length-map, length-take, drop_of_length-le}
use lib.Seq.{take_at, take_all}
use mir.Syntax.{w16}
use Rattle.refusal.specs.Outcome.{Outcome, told_on, value_in, none_moved}
use Rattle.refusal.specs.declared.Refusal.{Refusal}
use Rattle.refusal.specs.declared.Moved.{Moved}
use Rattle.theory.specs.Floor.{floor_div}
use Rattle.theory.specs.Lists.{but_last}
use Rattle.theory.specs.Sections.{onto, state, outs}
use Rattle.theory.specs.Tally.{held_sum}
use Rattle.theory.specs.Machines.{Machine, alone}
use Rattle.theory.specs.Feeds.{Fed, idle, feed}
use Rattle.theory.proofs.Machines.{lawful_alone}
use Rattle.theory.proofs.Tally.{held_more}
use Rattle.theory.proofs.Feeds.{less, feed_right}
use Rattle.theory.proofs.FeedRules.{feed_full, feed_due, feed_end}
use Rattle.theory.proofs.Batches.{feed_takes, feed_alone, alone_before_last, whole_but_last}
use Rattle.theory.proofs.Sections.{outs_few}
use Rattle.integer.specs.Gain.{gain_bits}
use Rattle.nonrecursive.specs.EitherKind.{Thinner, either, thin, thin_fed, valid_at}
use Rattle.nonrecursive.proofs.EitherKind.{outs_scaled, state_scaled}
use Rattle.q15.specs.Fixed.{cut, cut_count}
use Rattle.q15.specs.FirDecimator.{fir, summing}
use Rattle.q15.specs.inner.FirBlock.{block_fits, fir_block_state, fir_block_outs, fir_block_cuts}
use Rattle.q15.specs.declared.fir_decimator.FirDecimator.{FirDecimator}
use Rattle.q15.proofs.CutFilling.{count_few}
use Rattle.half_band.specs.HbfStream.{hbf_stream}
use Rattle.half_band.specs.inner.HbfStreamBlock.{stream_block_fits, stream_block_state, stream_block_outs}
use Rattle.half_band.specs.declared.hbf_stream.HbfStream.{HbfStream}
use Rattle.half_band.proofs.InPlace.{end_put}
use Rattle.float.specs.F32.{one32}
use Rattle.float.specs.Level.{level}
use Rattle.float.specs.PolyphaseOpening.{valid, valid_in_line}
use Rattle.float.specs.PolyphaseResamp.{is_on, in_line, resampler, block, block_outcome, block_span}
use Rattle.float.specs.declared.polyphase_resamp.PolyphaseResampF32.{PolyphaseResampF32}
use Rattle.float.proofs.PolyphaseRange as Res
use Rattle.chain.specs.Chain.{Parts2, from2, from3, from4, from5, from_levels, chain}
use Rattle.chain.specs.inner.Parts.{levels_on, fir_on, cut_on}
use Rattle.chain.specs.Cuts.{most_cuts}
use Rattle.chain.specs.inner.Batched.{Whole, Leaves, Batched}
use Rattle.chain.proofs.Batching.{whole_behind, batched_before, batched_each, whole_each, is_off, is_on_lem, batched_off, off_room, fed_on_lem}

-- ---- a feed writes no more than there are places
module _ {S A C : Type 0} (m : Machine S A C) where
  room_full : (s : S) (xs : List A) → length (feed m s xs 0).written ≤ 0
  room_full s xs = rw (feed_full m s xs) (omega arith)

  room : (k : ℕ) (s : S) (xs : List A) (n : ℕ) → length xs + n ≤ k → length (feed m s xs n).written ≤ n
  room zero s xs zero l = room_full s xs
  room zero s xs (suc n) l = absurd (omega arith)
  room (suc k) s xs zero l = room_full s xs
  room (suc k) s xs (suc n) l = go (m.due s) refl xs l (λ s' xs' n' l'. room k s' xs' n' l')
    where
      Kept : Type 0
      Kept = (s' : S) (xs' : List A) (n' : ℕ) → length xs' + n' ≤ k → length (feed m s' xs' n').written ≤ n'

      go : (d : Bool) → m.due s ≡ d → (ys : List A) → length ys + suc n ≤ suc k → Kept → length (feed m s ys (suc n)).written ≤ suc n
      go true e ys q ih = rw (feed_due m s ys n e) (suc-le-suc (ih (m.after s) ys n (omega arith)))
      go false e [] q ih = rw (feed_end m s (suc n) e) (omega arith)
      go false e (a ∷ ys) q ih = rw (feed_takes m s a ys n e) (of (m.now s a))
        where
          of : (o : Option C) → length (onto o (feed m (m.next s a) ys (less o (suc n))).written) ≤ suc n
          of None = ih (m.next s a) ys (suc n) (omega arith)
          of (Some c) = suc-le-suc (ih (m.next s a) ys n (omega arith))

  pub feed_room : (s : S) (xs : List A) (n : ℕ) → length (feed m s xs n).written ≤ n
  feed_room s xs n = room (length xs + n) s xs n (omega arith)

-- ---- section 5
-- off: levels in front of the span
module _ (s : PolyphaseResampF32) (xs o : List Float) (off : s.phases ≡ 0) (v : valid_in_line s ≡ true) (whole : Whole from5 s xs (length o)) where
  pub off_fits : length xs ≤ length o
  off_fits = off_room s xs (length o) (is_off s off) v whole

  pub off_batched : Batched from5 s xs o (xs ++ drop (length xs) o) s (length xs)
  off_batched = batched_off s xs o (is_off s off) whole

-- on, with nothing due, it makes nothing of no levels
pub none_batched :
    (s : PolyphaseResampF32) (xs o : List Float) → length xs ≡ 0 → lt s.mu one32 ≡ false → Batched from5 s xs o o s 0
unfolding in_line
none_batched s [] o e quiet =
    let i = feed_end in_line s (length o) (and_false (is_on s) quiet) in
    record {
      state = sym (ap (λ (g : Fed PolyphaseResampF32 Float). g.line) i);
      wrote = sym (ap (λ (g : Fed PolyphaseResampF32 Float). length g.written) i);
      span = sym (ap (λ (g : Fed PolyphaseResampF32 Float). g.written ++ drop (length g.written) o) i);
    }
  where
    and_false : (b : Bool) {c : Bool} → c ≡ false → b && c ≡ false
    and_false true e = e
    and_false false e = refl
none_batched s (x ∷ xs) o e quiet = absurd (omega (arith, e))

-- a refused block moves nothing
moved_as : (r : Result Moved Refusal) → result_unwrap_or r none_moved ≡ value_in none_moved r
moved_as (Ok m) = refl
moved_as (Err q) = refl

-- on, or refused: no more is written than there are places
module _ (s : PolyphaseResampF32) (xs o : List Float) where
  written_within : (w : ℕ) → w ≡ (block_outcome s xs o).value.written → w ≤ length o
  unfolding block_outcome block
  written_within w e = go (valid s) refl
    where
      go : (b : Bool) → valid s ≡ b → w ≤ length o
      go true v = let f = feed_room resampler s xs (length o) in let q : w ≡ length (feed resampler s xs (length o)).written = e ∙ rw v refl in omega (arith, q, f)
      go false v = let q : w ≡ 0 = e ∙ rw v refl in omega (arith, q)

  batched_on :
      (r : PolyphaseResampF32) (w : ℕ) (o' : List Float) → is_on s ≡ true → valid_in_line s ≡ true
      → w ≡ (block_outcome s xs o).value.written → r ≡ (block_outcome s xs o).state → o' ≡ block_span s xs o → Batched in_line s xs o o' r w
  unfolding block_outcome block_span block
  batched_on r w o' on v ew er eo =
      let ok : valid s ≡ true = Res.on_valid s on v in
      let same : feed resampler s xs (length o) ≡ feed in_line s xs (length o) = sym (fed_on_lem s xs (length o) on) in
      record {
        state = er ∙ rw ok refl ∙ ap (λ (g : Fed PolyphaseResampF32 Float). g.line) same;
        wrote = ew ∙ rw ok refl ∙ ap (λ (g : Fed PolyphaseResampF32 Float). length g.written) same;
        span = eo ∙ rw ok refl ∙ ap (λ (g : Fed PolyphaseResampF32 Float). g.written ++ drop (length g.written) o) same;
      }

  -- the same by what the calls ensure
  module _ (r : Result Moved Refusal) (m : Moved) (t : PolyphaseResampF32) (told : told_on none_moved r t ≡ block_outcome s xs o) (is : m ≡ result_unwrap_or r none_moved) where
    wrote : m.written ≡ (block_outcome s xs o).value.written
    wrote = ap (λ (n : Moved). n.written) (is ∙ moved_as r) ∙ ap (λ (o : Outcome Moved PolyphaseResampF32). o.value.written) told

    pub moved_within : m.written ≤ length o
    moved_within = written_within m.written wrote

    pub moved_batched :
        (o' : List Float) → o' ≡ block_span s xs o → (s.phases ≡ 0 → ⊥) → valid_in_line s ≡ true → Whole from5 s xs (length o) → Batched from5 s xs o o' t m.written
    moved_batched o' eo on v whole = batched_on t m.written o' (is_on_lem s on) v wrote (ap (λ (o : Outcome Moved PolyphaseResampF32). o.state) told) eo

-- ---- section 4: the levels y are put at the end of a tape
module _ (h h' : HbfStream) (r r' : PolyphaseResampF32) (values : List ℤ) (zeros y tape₂ : List Float) (m w : ℕ) (o o' : List Float) (few : length values ≤ 64)
    (long : length zeros ≡ 160) (laid : y ≡ map level values ++ drop (length values) (take (160 - (160 - length values)) (drop (160 - length values) zeros))) where
  abbrev n : ℕ
  n = length values

  abbrev tape₁ : List Float
  tape₁ = put_mid (160 - n) (160 - (160 - n)) zeros y

  y_is : y ≡ map level values
  y_is =
      laid
      ∙ ap (λ (l : List Float). map level values ++ l) (drop_of_length-le (take (160 - (160 - n)) (drop (160 - n) zeros)) {i = n} (omega (arith, length-take (160 - (160 - n)) (drop (160 - n) zeros), few)))
      ∙ append-nil (map level values)

  put : (length tape₁ ≡ 160) × (drop (160 - n) tape₁ ≡ y)
  put = end_put 160 (160 - n) zeros y long (omega arith) (ap length y_is ∙ length-map values level ∙ omega (arith, few))

  last : drop (length tape₁ - n) tape₁ ≡ map level values
  last = ap (λ (k : ℕ). drop (k - n) tape₁) put.0 ∙ put.1 ∙ y_is

  windows_fit : n + 96 ≤ length tape₁
  windows_fit = omega (arith, put.0, few)

  fits : stream_block_fits (drop (length tape₁ - n) tape₁) ≡ true
  fits = ap stream_block_fits last ∙ le-leb (length (map level values)) 192 (let e = length-map values level in omega arith)

  abbrev slice : List Float
  slice = take (160 - (160 - m)) (drop (160 - m) tape₂)

  pub levels_batched :
      (n + 96 ≤ length tape₁ → h' ≡ stream_block_state h (drop (length tape₁ - n) tape₁)) → (n + 96 ≤ length tape₁ → drop (length tape₁ - m) tape₂ ≡ stream_block_outs h (drop (length tape₁ - n) tape₁))
      → length tape₂ ≡ length tape₁ → (valid_in_line r ≡ true → Whole from5 r slice (length o) → Batched from5 r slice o o' r' w)
      → valid_in_line r ≡ true → Whole from_levels (levels_on h r) values (length o) → Batched from_levels (levels_on h r) values o o' (levels_on h' r') w
  levels_batched eh em same on v whole =
      let all : slice ≡ drop (160 - m) tape₂ = take_all (160 - (160 - m)) (drop (160 - m) tape₂) (omega (arith, length-drop (160 - m) tape₂, same, put.0)) in
      let made : slice ≡ outs hbf_stream h (map level values) =
      all
      ∙ ap (λ (k : ℕ). drop (k - m) tape₂) (sym put.0)
      ∙ em windows_fit
      ∙ ap (λ (b : Bool). cond b (outs hbf_stream h (drop (length tape₁ - n) tape₁)) []) fits
      ∙ ap (outs hbf_stream h) last
      in
      let whole4 : Whole from4 (h, r) (map level values) (length o) = whole_each level from4 (h, r) values (length o) whole in
      let whole5 : Whole from5 r (outs hbf_stream h (map level values)) (length o) = whole_behind hbf_stream from5 h r (map level values) (length o) whole4 in
      let next : h' ≡ state hbf_stream h (map level values) = eh windows_fit ∙ ap (λ (b : Bool). cond b (state hbf_stream h (drop (length tape₁ - n) tape₁)) h) fits ∙ ap (state hbf_stream h) last in
      let behind : Batched from5 r (outs hbf_stream h (map level values)) o o' r' w =
      subst (λ (l : List Float). Batched from5 r l o o' r' w) made (on v (subst⁻¹ (λ (l : List Float). Whole from5 r l (length o)) made whole5))
      in
      batched_each level from4 (h, r) values (map level values) o o' (h', r') w refl whole (batched_before hbf_stream from5 h r (map level values) o o' h' r' w whole4 next behind)

-- ---- section 3
module _ (s : FirDecimator) (values : List ℤ) (few : length values ≤ 128) where
  fir_fits : block_fits (length values) ≡ true
  fir_fits = le-leb (length values) 128 few

  pub filtered_state : fir_block_state s values ≡ state fir s values
  filtered_state = ap (λ (b : Bool). cond b (state fir s values) s) fir_fits

  filtered_outs : fir_block_outs s values ≡ outs fir s values
  filtered_outs = ap (λ (b : Bool). cond b (outs fir s values) []) fir_fits

  pub filtered_cuts : (cuts : ℕ) → cuts ≡ fir_block_cuts s values → cuts ≡ cut_count w16 (outs summing s values)
  filtered_cuts cuts e = e ∙ ap (λ (b : Bool). cond b (cut_count w16 (outs summing s values)) 0) fir_fits

  -- they stand in front
  pub filtered_front : (made : ℕ) (after : List ℤ) → (made ≡ length (fir_block_outs s values)) × (after ≡ fir_block_outs s values ++ drop made values) → take made after ≡ outs fir s values
  filtered_front made after told = ap (take made) told.1 ∙ take_at (fir_block_outs s values) (drop made values) made (sym told.0) ∙ filtered_outs

-- no more cuts than values
pub few_cuts : (s : FirDecimator) (values : List ℤ) (cuts : ℕ) → length values ≤ 128 → cuts ≡ cut_count w16 (outs summing s values) → cuts ≤ 128
few_cuts s values cuts few e = let k = le_trans (count_few (outs summing s values)) (outs_few summing s values) in omega (arith, e, k, few)

pub filter_batched :
    (s s' : FirDecimator) (h h' : HbfStream) (r r' : PolyphaseResampF32) (values front : List ℤ) (w : ℕ) (o o' : List Float) → s' ≡ state fir s values → front ≡ outs fir s values
    → (valid_in_line r ≡ true → Whole from_levels (levels_on h r) front (length o) → Batched from_levels (levels_on h r) front o o' (levels_on h' r') w)
    → valid_in_line r ≡ true → Whole from3 (fir_on s h r) values (length o) → Batched from3 (fir_on s h r) values o o' (fir_on s' h' r') w
filter_batched s s' h h' r r' values front w o o' es ef on v whole =
    batched_before fir from_levels s (levels_on h r) values o o' s' (levels_on h' r') w whole es
    (subst (λ (l : List ℤ). Batched from_levels (levels_on h r) l o o' (levels_on h' r') w) ef
    (on v (subst⁻¹ (λ (l : List ℤ). Whole from_levels (levels_on h r) l (length o)) ef (whole_behind fir from_levels s (levels_on h r) values (length o) whole))))

-- ---- sections 1 and 2
abbrev scaled_at : ℕ → ℤ → ℤ
scaled_at bits y = floor_div y (2 ^ bits)

module _ (t t' : Thinner) (p p' : Parts2) (xs sums : List ℤ) (taken made bits count w : ℕ) (o o' : List Float) where
  abbrev fed : Fed Thinner ℤ
  fed = thin_fed t xs count

  abbrev ys : List ℤ
  ys = take taken xs

  module _ (is_bits : bits ≡ gain_bits t.cic.stages t.cic.r) (fine : valid_at t.kind t.cic.stages t.cic.r t.cic.sample_counter ≡ true)
      (et : taken ≡ fed.taken) where
    by_thin : fed ≡ feed (alone (pos 0) thin) t xs count
    unfolding thin_fed
    by_thin = rw fine refl

    is_taken : taken ≡ (feed (alone (pos 0) thin) t xs count).taken
    is_taken = et ∙ ap (λ (g : Fed Thinner ℤ). g.taken) by_thin

    sums_of : fed.written ≡ outs thin t ys
    sums_of = ap (λ (g : Fed Thinner ℤ). g.written) by_thin ∙ (feed_alone (pos 0) thin t xs count).0 ∙ ap (λ (n : ℕ). outs thin t (take n xs)) (sym is_taken)

    state_of : fed.line ≡ state either t ys
    state_of =
        ap (λ (g : Fed Thinner ℤ). g.line) by_thin ∙ (feed_alone (pos 0) thin t xs count).1 ∙ ap (λ (n : ℕ). state thin t (take n xs)) (sym is_taken) ∙ sym (state_scaled t ys)

    scaled_of : (l : List ℤ) → outs either t l ≡ map (scaled_at bits) (outs thin t l)
    scaled_of l = outs_scaled t l ∙ ap (λ (b : ℕ). map (scaled_at b) (outs thin t l)) (sym is_bits)

    pub scaled_sums_lem : take made sums ≡ fed.written → map (scaled_at bits) (take made sums) ≡ outs either t ys
    scaled_sums_lem e = ap (map (scaled_at bits)) (e ∙ sums_of) ∙ sym (scaled_of ys)

    pub takes_some : 1 ≤ count → 1 ≤ length xs → 1 ≤ taken
    takes_some c n = subst⁻¹ (λ (k : ℕ). 1 ≤ k) is_taken (go xs count c n)
      where
        go : (l : List ℤ) (k : ℕ) → 1 ≤ k → 1 ≤ length l → 1 ≤ (feed (alone (pos 0) thin) t l k).taken
        go [] k a b = absurd (omega arith)
        go (x ∷ l) zero a b = absurd (omega arith)
        go (x ∷ l) (suc k) a b = rw (feed_takes (alone (pos 0) thin) t x l k refl) (omega arith)

    pub all_taken : 1 ≤ count → Leaves from2 p count (length o) → Whole chain (t, p) ys (length o)
    all_taken c leaves =
        whole_but_last either from2 t p ys (length o)
        (leaves (outs either t (but_last ys))
        (subst⁻¹ (λ (n : ℕ). n < count) (ap length (scaled_of (but_last ys)) ∙ length-map (outs thin t (but_last ys)) (scaled_at bits))
        (subst⁻¹ (λ (n : ℕ). length (outs thin t (but_last (take n xs))) < count) is_taken (alone_before_last (pos 0) thin t xs count c))))

    pub chain_batched :
        t' ≡ fed.line → Whole chain (t, p) ys (length o) → (Whole from2 p (outs either t ys) (length o) → Batched from2 p (outs either t ys) o o' p' w)
        → Batched chain (t, p) ys o o' (t', p') w
    chain_batched el whole on = batched_before either from2 t p ys o o' t' p' w whole (el ∙ state_of) (on (whole_behind either from2 t p ys (length o) whole))

-- whatever the state, a block takes no more samples than there are
pub taken_within : (t : Thinner) (xs : List ℤ) (count taken made : ℕ) → (taken ≡ (thin_fed t xs count).taken) × (made ≡ length (thin_fed t xs count).written) → taken ≤ length xs
unfolding thin_fed
taken_within t xs count taken made (e, f) = subst⁻¹ (λ (n : ℕ). n ≤ length xs) e (go (valid_at t.kind t.cic.stages t.cic.r t.cic.sample_counter))
  where
    go : (b : Bool) → (cond b (feed (alone (pos 0) thin) t xs count) (idle t)).taken ≤ length xs
    go true = (feed_right (alone (pos 0) thin) 0 (λ x. Unit {0}) (lawful_alone (pos 0) thin 0 (λ x. Unit {0}) (λ x a g. g)) t xs count tt).within
    go false = omega arith

-- and makes no more sums than it may
few_made : (t : Thinner) (xs : List ℤ) (count : ℕ) → length (thin_fed t xs count).written ≤ count
unfolding thin_fed
few_made t xs count = go (valid_at t.kind t.cic.stages t.cic.r t.cic.sample_counter)
  where
    go : (b : Bool) → length (cond b (feed (alone (pos 0) thin) t xs count) (idle t)).written ≤ count
    go true = feed_room (alone (pos 0) thin) t xs count
    go false = omega arith

module _ (t : Thinner) (s : FirDecimator) (xs : List ℤ) (bits : ℕ) where
  abbrev sums_by : ℕ → List ℤ
  sums_by n = map (scaled_at bits) (thin_fed t xs n).written

  abbrev cuts_by : ℕ → ℕ
  cuts_by n = cut_count w16 (sums_by n) + cut_count w16 (outs summing s (map (cut w16) (sums_by n)))

  -- whatever the state, what is counted is what was cut of the sums and of the FIR's
  pub batch_counted :
      (vals : List ℤ) (taken made count most before first after : ℕ) → most ≡ min count 128
      → (taken ≡ (thin_fed t xs most).taken) × (made ≡ length (thin_fed t xs most).written)
      → (take made vals ≡ map (cut w16) (sums_by most)) × (first ≡ cut_count w16 (sums_by most))
      → after ≡ held_sum most_cuts (held_sum most_cuts before first) (cut_count w16 (outs summing s (take made vals)))
      → (cuts_by (min count 128) ≤ 256) × (after ≡ held_sum most_cuts before (cuts_by (min count 128)))
  batch_counted vals taken made count most before first after em told (ev, ec) e =
      subst (λ (n : ℕ). (cuts_by n ≤ 256) × (after ≡ held_sum most_cuts before (cuts_by n))) em (
        few,
        e ∙ held_more most_cuts before first (cut_count w16 (outs summing s (take made vals)))
            ∙ ap₂ {C = ℕ} (λ (a b : ℕ). held_sum most_cuts before (a + b)) ec (ap (λ (l : List ℤ). cut_count w16 (outs summing s l)) ev),
      )
    where
      few : cuts_by most ≤ 256
      few =
          let n = few_made t xs most in
          let sums = count_few (sums_by most) in
          let filtered = le_trans (count_few (outs summing s (map (cut w16) (sums_by most)))) (outs_few summing s (map (cut w16) (sums_by most))) in
          let l₁ = length-map (thin_fed t xs most).written (scaled_at bits) in
          let l₂ = length-map (sums_by most) (cut w16) in
          omega (arith, n, sums, filtered, l₁, l₂, em)

module _ (t t' : Thinner) (s s' : FirDecimator) (h h' : HbfStream) (r r' : PolyphaseResampF32) (xs sums vals : List ℤ) (taken made bits count w first before after : ℕ) (o o' : List Float) where
  abbrev zs : List ℤ
  zs = take taken xs

  -- what is claimed of the batch
  abbrev Took : Type 0
  Took =
      (1 ≤ taken) × Whole chain (t, cut_on s h r) zs (length o) × Batched chain (t, cut_on s h r) zs o o' (t', cut_on s' h' r') w
      × (after ≡ held_sum most_cuts before (cut_count w16 (outs either t zs) + cut_count w16 (outs summing s (map (cut w16) (outs either t zs)))))

  took :
      bits ≡ gain_bits t.cic.stages t.cic.r → valid_at t.kind t.cic.stages t.cic.r t.cic.sample_counter ≡ true → taken ≡ (thin_fed t xs count).taken
      → t' ≡ (thin_fed t xs count).line → take made sums ≡ (thin_fed t xs count).written → take made vals ≡ map (cut w16) (map (scaled_at bits) (take made sums))
      → first ≡ cut_count w16 (map (scaled_at bits) (take made sums)) → after ≡ held_sum most_cuts (held_sum most_cuts before first) (cut_count w16 (outs summing s (take made vals)))
      → (valid_in_line r ≡ true → Whole from3 (fir_on s h r) (take made vals) (length o) → Batched from3 (fir_on s h r) (take made vals) o o' (fir_on s' h' r') w)
      → valid_in_line r ≡ true → 1 ≤ count → 1 ≤ length xs → Leaves from2 (cut_on s h r) count (length o)
      → Took
  took eb fine et el es ev ec e2 on v c n leaves =
      let scaled : map (scaled_at bits) (take made sums) ≡ outs either t zs =
      scaled_sums_lem t t' (cut_on s h r) (cut_on s' h' r') xs sums taken made bits count w o o' eb fine et es
      in
      let whole = all_taken t t' (cut_on s h r) (cut_on s' h' r') xs sums taken made bits count w o o' eb fine et c leaves in
      let values : take made vals ≡ map (cut w16) (outs either t zs) = ev ∙ ap (map (cut w16)) scaled in (
        takes_some t t' (cut_on s h r) (cut_on s' h' r') xs sums taken made bits count w o o' eb fine et c n,
        whole,
        chain_batched t t' (cut_on s h r) (cut_on s' h' r') xs sums taken made bits count w o o' eb fine et el whole
            (λ whole2. batched_each (cut w16) from3 (fir_on s h r) (outs either t zs) (take made vals) o o' (fir_on s' h' r') w values whole2
            (on v (subst⁻¹ (λ (l : List ℤ). Whole from3 (fir_on s h r) l (length o)) values (whole_each (cut w16) from3 (fir_on s h r) (outs either t zs) (length o) whole2)))),
        e2 ∙ held_more most_cuts before first (cut_count w16 (outs summing s (take made vals)))
            ∙ ap₂ {C = ℕ} (λ (a b : ℕ). held_sum most_cuts before (a + b)) (ec ∙ ap (cut_count w16) scaled) (ap (λ (l : List ℤ). cut_count w16 (outs summing s l)) values),
      )

-- the same by what the calls of a batch ensure, for `most` sums
module _ (t t' : Thinner) (s s' : FirDecimator) (h h' : HbfStream) (r r' : PolyphaseResampF32) (xs vals : List ℤ) (taken made bits count most w first before after : ℕ)
    (o o' : List Float) where
  abbrev thinned : Fed Thinner ℤ
  thinned = thin_fed t xs most

  abbrev scaled : List ℤ
  scaled = map (scaled_at bits) thinned.written

  pub took_batch :
      most ≡ min count 128 → (taken ≡ thinned.taken) × (made ≡ length thinned.written) → t' ≡ thinned.line
      → (take made vals ≡ map (cut w16) scaled) × (first ≡ cut_count w16 scaled) → after ≡ held_sum most_cuts (held_sum most_cuts before first) (cut_count w16 (outs summing s (take made vals)))
      → (valid_in_line r ≡ true → Whole from3 (fir_on s h r) (take made vals) (length o) → Batched from3 (fir_on s h r) (take made vals) o o' (fir_on s' h' r') w)
      → bits ≡ gain_bits t.cic.stages t.cic.r → valid_at t.kind t.cic.stages t.cic.r t.cic.sample_counter ≡ true → valid_in_line r ≡ true → 1 ≤ count → count ≤ 128
      → 1 ≤ length xs → Leaves from2 (cut_on s h r) count (length o)
      → Took t t' s s' h h' r r' xs thinned.written vals taken made bits most w first before after o o'
  took_batch em (et, en) el (ev, ec) e2 on eb fine v c₁ c₂ some leaves =
      let all : most ≡ count = omega (arith, em, c₂) in
      let sums : take made thinned.written ≡ thinned.written = take_all made thinned.written (omega (arith, en)) in
      let same : map (scaled_at bits) (take made thinned.written) ≡ scaled = ap (map (scaled_at bits)) sums in
      took t t' s s' h h' r r' xs thinned.written vals taken made bits most w first before after o o' eb fine et el sums (ev ∙ sym (ap (map (cut w16)) same)) (ec ∙ sym (ap (cut_count w16) same)) e2 on v
      (omega (arith, all, c₁)) some (subst⁻¹ (λ (k : ℕ). Leaves from2 (cut_on s h r) k (length o)) all leaves)
