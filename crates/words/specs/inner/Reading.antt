-- A value that was laid is read as it was: the law of each width.
use mathlib.Core.Path.{◌≡◌, refl, sym, ap, ◌∙◌}
use mathlib.Core.List.{List, ◌++◌}
use Prim.Native.Nat.{ℕ, ◌+◌, ◌*◌, ◌%◌, ◌/◌, ◌<◌}
use native.Mathlib.Nat.{add-zero}
use native.Mathlib.Omega.{arith}
use lib.Ieee.{Float, binary32, to_bits, of_bits}
use lib.Ieee.Bits.{of_bits-to_bits, to_bits-lt}
use lib.ListN.{length, get_or, drop}
use lib.Seq.{get_or-drop}
use mir.Syntax.{w16, w32}
use mir.Val.{SFits, to_z, of_z}
use mir.Facts.{to_z-of_z, Fits-of_z}
use Rattle.sheet.specs.Sheet.{le16, bytes16}
use Rattle.sheet.proofs.RoundTrip.{found_at}
use Rattle.words.specs.Fields.{i16_bytes, i32_bytes, f32_bytes, i16_at, i32_at, f32_at, IsFloat}

-- a width: w bytes a value, and where a value of P was laid, it is read
pub record Reads {A : Type 0} (bytes : A → List ℕ) (read : List ℕ → ℕ → A) (w : ℕ) (P : A → Type 0) : Type 0 where
  pub long : (x : A) → length (bytes x) ≡ w
  pub reads : (b : List ℕ) (at : ℕ) (x : A) (rest : List ℕ) → P x → drop at b ≡ bytes x ++ rest → read b at ≡ x

pub word_at : (b : List ℕ) (p v : ℕ) (rest : List ℕ) → drop p b ≡ bytes16 v ++ rest → v < 65536 → le16 b p ≡ v
unfolding le16
word_at b p v rest e h =
    let f₀ : get_or b p 0 ≡ v % 256 = ap (λ (k : ℕ). get_or b k 0) (sym (add-zero p)) ∙ sym (get_or-drop p b 0 0) ∙ ap (λ (l : List ℕ). get_or l 0 0) e in
    let f₁ : get_or b (p + 1) 0 ≡ v / 256 % 256 = sym (get_or-drop p b 1 0) ∙ ap (λ (l : List ℕ). get_or l 1 0) e in
    rw (f₀, f₁) (digits v h)
  where
    digits : (n : ℕ) → n < 65536 → n % 256 + 256 * (n / 256 % 256) ≡ n
    digits n l = omega arith

pub reads_i16 : Reads i16_bytes i16_at 2 (SFits w16)
reads_i16 = record { long = λ x. refl; reads = λ b at x rest p e. ap (to_z w16) (word_at b at (of_z w16 x) rest e (Fits-of_z p).fits) ∙ to_z-of_z p }

pub reads_i32 : Reads i32_bytes i32_at 4 (SFits w32)
reads_i32 = record { long = λ x. refl; reads = λ b at x rest p e. ap (to_z w32) (found_at b at (of_z w32 x) rest e (Fits-of_z p).fits) ∙ to_z-of_z p }

pub bits_below : (x : Float) → IsFloat x → to_bits binary32 x < 4294967296
bits_below x p = to_bits-lt binary32 x p

pub reads_f32 : Reads f32_bytes f32_at 4 IsFloat
reads_f32 = record { long = λ x. refl; reads = λ b at x rest p e. ap (of_bits binary32) (found_at b at (to_bits binary32 x) rest e (bits_below x p)) ∙ of_bits-to_bits binary32 x p }
