-- A half-band decimator as a window that takes pairs: for the contracts of private functions.
use Rattle.std.specs.Prelude.{List, [], ◌∷◌, Float, Some}
use Rattle.theory.specs.Sections.{Section}
use Rattle.half_band.specs.Windows.{slid, dec_value}

-- a window that takes pairs and makes an output of each
unfoldable pub decimator : List Float → Section (List Float) (Float × Float) Float
decimator c = record { next = λ w p. slid w (p.0 ∷ p.1 ∷ []); out = λ w p. Some (dec_value c (slid w (p.0 ∷ p.1 ∷ []))) }
