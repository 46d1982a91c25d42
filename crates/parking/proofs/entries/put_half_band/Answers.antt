-- Each stage lies in the entry, right behind those that are put.
use Rattle.std.proofs.Common.{◌≡◌, ◌++◌, sym, ◌-◌, ◌+◌, ◌*◌, ◌≤◌, ◌<◌, ℕ, List, length, take, drop, refl, ap, ◌∙◌, arith, add-one, length-drop}
use lib.Seq.{length-take-le}
use Rattle.std.proofs.lemmas.Slice.{take-put_mid}
use Rattle.half_band.specs.declared.hbf_stream.HbfStream.{HbfStream}
use borrow.Rule.Slice.PartMut.{put_mid}
use Rattle.parking.specs.Parked.{half_band_bytes}
use Rattle.parking.specs.Entries.{window_of, stage_bytes, stages_bytes, settings_in}
use Rattle.parking.specs.Kept.{line_kept}
use Rattle.parking.specs.declared.fine_line.FineLine.{FineLine}
use Rattle.parking.proofs.StageLengths.{bytes_mono}
use Rattle.parking.proofs.Back.{bytes_more}
use Rattle.parking.proofs.entries.put_half_band.Goals as goal

pub loop-stage-init : goal.loop-stage-init
unfolding stages_bytes half_band_bytes
loop-stage-init c = refl

few : (line : FineLine) → (line_kept line.kept).half_band.depth ≤ 5
unfolding settings_in
few line = line.fine.limits.depth

-- stage k's place in the entry
next : (k a b : ℕ) → k < 5 → a ≡ half_band_bytes k → b ≡ half_band_bytes (k + 1) → b ≡ a + (6 + 4 * window_of k)
next k a b h e f = f ∙ rw (add-one k, e) (bytes_more k h)

within : (k n b : ℕ) → k < n → n ≤ 5 → b ≡ half_band_bytes (k + 1) → b ≤ half_band_bytes n
within k n b h l f = rw f (bytes_mono (k + 1) n l (omega arith))

place_long : (a b w : ℕ) (s : List ℕ) → b ≡ a + w → b ≤ length s → length (take (b - a) (drop a s)) ≡ w
place_long a b w s e h = length-take-le (b - a) (drop a s) (let g = length-drop a s in omega arith) ∙ (omega arith)

-- one stage more is put
one_more :
    (s : HbfStream) (k a b : ℕ) (span xs : List ℕ) → a ≡ half_band_bytes k → b ≡ half_band_bytes (k + 1) → take b (put_mid a (b - a) span xs) ≡ take a span ++ xs
    → take (half_band_bytes k) span ≡ stages_bytes s k → xs ≡ stage_bytes s k → take (half_band_bytes (k + 1)) (put_mid a (b - a) span xs) ≡ stages_bytes s (k + 1)
unfolding stages_bytes
one_more s k a b span xs e f t i x =
    ap (λ (n : ℕ). take n (put_mid a (b - a) span xs)) (sym f) ∙ t ∙ ap (λ (n : ℕ). take n span ++ xs) e ∙ ap (λ (l : List ℕ). l ++ xs) i ∙ ap (λ (l : List ℕ). stages_bytes s k ++ l) x
    ∙ ap (stages_bytes s) (sym (add-one k))

pub slice_bounds-put_stage-count : goal.slice_bounds-put_stage-count
slice_bounds-put_stage-count c =
    let e = next c.loop-stage.stage _ _ (let h = few c.args.line.now in omega arith) c.half_band_bytes.ensures c.half_band_bytes-in-loop-stage.ensures in
    omega (arith, e)

pub slice_bounds-put_stage-start : goal.slice_bounds-put_stage-start
slice_bounds-put_stage-start c = slice_bounds-put_stage-count c

pub slice_bounds-put_stage-end : goal.slice_bounds-put_stage-end
slice_bounds-put_stage-end c =
    let w = within c.loop-stage.stage _ _ c.loop-stage-test.true (few c.args.line.now) c.half_band_bytes-in-loop-stage.ensures in
    let h : c.half_band_bytes-in-loop-stage.result ≤ length c.loop-stage.span = omega (arith, w, c.requires) in
    h

pub put_stage-requires : goal.put_stage-requires
put_stage-requires c =
    let f : c.loop-stage.stage < 5 = let h = few c.args.line.now in omega arith in
    let e = next c.loop-stage.stage _ _ f c.half_band_bytes.ensures c.half_band_bytes-in-loop-stage.ensures in
    let w = within c.loop-stage.stage _ _ c.loop-stage-test.true (few c.args.line.now) c.half_band_bytes-in-loop-stage.ensures in
    (f, place_long _ _ _ c.loop-stage.span e (omega (arith, w, c.requires)))

pub loop-stage-preserved : goal.loop-stage-preserved
loop-stage-preserved c =
    let a = c.half_band_bytes.result in
    let b = c.half_band_bytes-in-loop-stage.result in
    let s = c.loop-stage.span in
    let e = next c.loop-stage.stage _ _ (let h = few c.args.line.now in omega arith) c.half_band_bytes.ensures c.half_band_bytes-in-loop-stage.ensures in
    let w = within c.loop-stage.stage _ _ c.loop-stage-test.true (few c.args.line.now) c.half_band_bytes-in-loop-stage.ensures in
    let h : b ≤ length s = omega (arith, w, c.requires) in
    let l : length c.put_stage.new.span ≡ 6 + 4 * window_of c.loop-stage.stage = c.put_stage.auto.span ∙ place_long a b _ s e h in
    let t = take-put_mid a (b - a) s c.put_stage.new.span b (omega (arith, e, l)) (omega arith) in
    one_more (line_kept c.args.line.now.kept).half_band c.loop-stage.stage a b s c.put_stage.new.span c.half_band_bytes.ensures c.half_band_bytes-in-loop-stage.ensures t c.loop-stage.invariant c.put_stage.ensures
