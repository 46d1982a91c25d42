-- `HbfDecCascade`: a block's frames fill the span's places in step, and the opening's claims follow from those of the streaming cascade.
use mathlib.Core.Path.{◌≡◌, sym, ap, ◌∙◌, subst}
use mathlib.Core.List.{List}
use Prim.Native.Nat.{ℕ, zero, suc, ◌+◌, ◌-◌, ◌*◌, ◌/◌, ◌^◌, ◌≤◌, ◌<◌, min}
use native.Mathlib.Nat.{le_trans, sub-zero, mul-one, mul_left_comm, add-mul, mul-le-mul_right, div-mul-le_self, pow-zero, pow-succ'}
use native.Mathlib.Omega.{arith}
use lib.Dec.{lit≤}
use lib.ListN.{length, drop, replicate, length-replicate, get_or-replicate, length-drop}
use lib.Ieee.{Float, nan}
use Rattle.theory.specs.Sections.{Section, state, outs}
use Rattle.float.specs.F32.{zero32}
use Rattle.half_band.specs.Windows.{pairs, spliced}
use Rattle.half_band.specs.inner.Decimator.{decimator}
use Rattle.half_band.specs.HbfStream.{stream, stream_of}
use Rattle.half_band.specs.HbfDecCascade.{dec_cascade_fresh, MeetsBy}
use Rattle.half_band.specs.declared.hbf_stream.HbfStream.{HbfStream}
use Rattle.refusal.proofs.Limits.{Between, not_outside}
use Rattle.half_band.proofs.WholeLists.{length_pairs}
use Rattle.half_band.specs.inner.FiveStages.{FiveStages}
use Rattle.half_band.proofs.Streaming.{stream_whole}
use Rattle.half_band.proofs.Reaching.{stream_reaches}
use Rattle.half_band.proofs.Frames.{made_count, nothing_held}
use Rattle.half_band.proofs.Stages.{Sized}
use Rattle.half_band.proofs.StageLists.{stages_on}
use Rattle.half_band.proofs.StageByStage.{window_of, Ready, Staged, staged, staged_long, stages_all, stages_none}

abbrev pub bare : ℕ → List Float → HbfStream
bare depth delays = stream_of depth delays (replicate 5 zero32) (replicate 5 0)

-- ---- the loop over the frames: a turn takes as many as a chunk has
pub record Turn (factor frames done end : ℕ) : Type 0 where
  pub more : done < end
  pub most : end ≤ frames
  pub count : end * factor - done * factor ≡ (end - done) * factor
  pub before : done * factor ≤ end * factor
  pub behind : end * factor ≤ frames * factor
  pub in_chunk : end * factor - done * factor ≤ 96

one_fits : (d : ℕ) → d ≤ 5 → 1 ≤ 96 / 2 ^ d
one_fits zero h = lit≤ tt
one_fits (suc zero) h = lit≤ tt
one_fits (suc (suc zero)) h = lit≤ tt
one_fits (suc (suc (suc zero))) h = lit≤ tt
one_fits (suc (suc (suc (suc zero)))) h = lit≤ tt
one_fits (suc (suc (suc (suc (suc zero))))) h = lit≤ tt
one_fits (suc (suc (suc (suc (suc (suc d)))))) h = absurd (omega arith)

pub turn : (factor depth frames done end : ℕ) → factor ≡ 2 ^ depth → depth ≤ 5 → done < frames → end ≡ min (done + 96 / factor) frames → Turn factor frames done end
turn factor depth frames done end ef deep h e =
    let one : 1 ≤ 96 / factor = subst (λ (n : ℕ). 1 ≤ 96 / n) (sym ef) (one_fits depth deep) in
    let few : end - done ≤ 96 / factor = omega arith in
    let sum : end ≡ done + (end - done) = omega arith in
    let times : end * factor ≡ done * factor + (end - done) * factor = ap (λ (n : ℕ). n * factor) sum ∙ add-mul done (end - done) factor in
    let fit : (end - done) * factor ≤ 96 = le_trans (mul-le-mul_right factor few) (div-mul-le_self 96 factor) in
    let most : end ≤ frames = omega arith in
    record { more = omega arith; most = most; count = omega arith; before = omega arith; behind = mul-le-mul_right factor most; in_chunk = omega arith }

-- so many frames lie in the samples
pub frames_fit : (n m l d : ℕ) → n ≡ min m (l / 2 ^ d) → n * 2 ^ d ≤ l
frames_fit n m l d e =
    let a : n ≤ l / 2 ^ d = omega arith in
    le_trans (mul-le-mul_right (2 ^ d) a) (div-mul-le_self l (2 ^ d))

-- over the taps of five stages
module _ (taps : ℕ → List Float) (five : FiveStages taps) where
  -- ---- the loop over the stages
  abbrev left : ℕ → ℕ → Section HbfStream Float Float
  left depth k = stages_on taps five (depth - k) k

  -- the values so far at the end of the tape: n of them where k stages are done, and what the stages left make of them is what all make of the samples v
  pub record Shrinking (depth frames : ℕ) (delays₀ v delays tape : List Float) (n k : ℕ) : Type 0 where
    pub stages : k ≤ depth
    pub count : n ≡ frames * 2 ^ (depth - k)
    pub long : length delays ≡ 480
    pub whole : length tape ≡ 192
    pub room : n ≤ 96
    pub state_is : state (left depth k) (bare depth delays) (drop (length tape - n) tape) ≡ state (stream taps) (bare depth delays₀) v
    pub outs_is : outs (left depth k) (bare depth delays) (drop (length tape - n) tape) ≡ outs (stream taps) (bare depth delays₀) v

  module _ (depth frames : ℕ) (delays₀ v : List Float) (deep : depth ≤ 5) where
    pub shrink_start : length delays₀ ≡ 480 → length v ≡ frames * 2 ^ depth → length v ≤ 96 → (tape : List Float) → length tape ≡ 192 → drop (length tape - length v) tape ≡ v
        → Shrinking depth frames delays₀ v delays₀ tape (length v) 0
    shrink_start long e few tape wide laid =
        record {
          stages = omega arith;
          count = e ∙ ap (λ (m : ℕ). frames * 2 ^ m) (sym (sub-zero depth));
          long = long;
          whole = wide;
          room = few;
          state_is = all.0 ∙ ap (state (stream taps) (bare depth delays₀)) laid;
          outs_is = all.1 ∙ ap (outs (stream taps) (bare depth delays₀)) laid;
        }
      where
        many : min depth 5 ≡ depth - 0
        many = omega arith

        u : List Float
        u = drop (length tape - length v) tape

        all : (state (left depth 0) (bare depth delays₀) u ≡ state (stream taps) (bare depth delays₀) u) × (outs (left depth 0) (bare depth delays₀) u ≡ outs (stream taps) (bare depth delays₀) u)
        all = stages_all taps five (depth - 0) (bare depth delays₀) u many

    module _ (delays tape : List Float) (n k : ℕ) (q : Shrinking depth frames delays₀ v delays tape n k) where
      -- the values that the next stage makes are half as many
      module _ (more : k < depth) where
        halved : (n / 2 ≡ frames * 2 ^ (depth - (k + 1))) × (n ≡ 2 * (n / 2))
        halved = (omega (arith, twice), omega (arith, twice))
          where
            less : depth - k ≡ suc (depth - (k + 1))
            less = omega arith

            twice : n ≡ 2 * (frames * 2 ^ (depth - (k + 1)))
            twice = q.count ∙ ap (λ (m : ℕ). frames * 2 ^ m) less ∙ ap (λ (m : ℕ). frames * m) (pow-succ' 2 (depth - (k + 1))) ∙ mul_left_comm frames 2 (2 ^ (depth - (k + 1)))

        abbrev window : List Float
        window = window_of taps five k (bare depth delays)

        abbrev front : List Float
        front = drop (length tape - n) tape

        abbrev stage : Section (List Float) (Float × Float) Float
        stage = decimator (taps k)

        abbrev made : List Float
        made = outs stage window (pairs front)

        -- they stand at the end of the tape
        pub shrink_next :
            (d t : List Float) → length t ≡ length tape → d ≡ spliced (96 * k) (4 * length (taps k)) (state stage window (pairs front)) delays → drop (length tape - length made) t ≡ made
            → Shrinking depth frames delays₀ v d t (n / 2) (k + 1)
        shrink_next d t same ed et =
            record {
              stages = omega arith;
              count = halved.0;
              long = ap length ed ∙ staged_long taps five depth k more deep (bare depth delays) sized (pairs front);
              whole = same ∙ q.whole;
              room = omega (arith, q.room);
              state_is = sym (done.0 ∙ ap (λ (u : List Float). state (left depth (k + 1)) (bare depth u) made) (sym ed) ∙ ap (state (left depth (k + 1)) (bare depth d)) (sym t_end)) ∙ q.state_is;
              outs_is = sym (done.1 ∙ ap (λ (u : List Float). outs (left depth (k + 1)) (bare depth u) made) (sym ed) ∙ ap (outs (left depth (k + 1)) (bare depth d)) (sym t_end)) ∙ q.outs_is;
            }
          where
            sized : Sized (bare depth delays)
            sized = record { delays = q.long; held = length-replicate 5 zero32; counts = length-replicate {A = ℕ} 5 0 }

            ready : Ready taps five depth k more deep (bare depth delays)
            ready = record { sized = sized; held = get_or-replicate 5 k zero32 nan (omega arith); count = get_or-replicate {A = ℕ} 5 k 0 0 (omega arith) }

            front_long : length front ≡ n
            front_long = omega (arith, length-drop (length tape - n) tape, q.room, q.whole)

            done : Staged taps five depth k more deep (bare depth delays) front
            done = staged taps five depth k more deep front (n / 2) (front_long ∙ halved.1) (bare depth delays) ready

            made_long : length made ≡ n / 2
            made_long = made_count (taps k) window (pairs front) ∙ length_pairs front ∙ ap (λ (m : ℕ). m / 2) front_long

            t_end : drop (length t - n / 2) t ≡ made
            t_end = ap (λ (j : ℕ). drop j t) (omega (arith, made_long, same)) ∙ et

      pub shrink_end : depth ≤ k → (n ≡ frames) × ((bare depth delays ≡ state (stream taps) (bare depth delays₀) v) × (drop (length tape - n) tape ≡ outs (stream taps) (bare depth delays₀) v))
      shrink_end h =
          let none = stages_none taps five depth k (bare depth delays) (drop (length tape - n) tape) h in
          let z : depth - k ≡ 0 = omega arith in (
            q.count ∙ ap (λ (m : ℕ). frames * 2 ^ m) z ∙ ap (λ (m : ℕ). frames * m) (pow-zero 2) ∙ mul-one frames,
            (sym none.0 ∙ q.state_is, sym none.1 ∙ q.outs_is),
          )

  -- an opening
  pub fresh_meets : (d : ℕ) → Between 1 d 5 → MeetsBy taps d (dec_cascade_fresh d)
  fresh_meets d b =
      record {
        never_refused = λ v. not_outside d 1 5 b.least b.most;
        nothing_held = λ v q h. nothing_held taps five d (replicate 480 zero32) b.most (length-replicate 480 zero32) v q h;
        whole = λ v. stream_whole taps five d b.most v;
        reach = stream_reaches taps five d b.most;
      }
