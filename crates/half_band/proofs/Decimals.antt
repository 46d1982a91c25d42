-- The table's bit patterns are the f32s nearest to the printed decimals: each rounding computes to its pattern.
use mathlib.Core.Path.{◌≡◌, refl}
use mathlib.Core.List.{List, [], ◌∷◌}
use lib.Ieee.{Float, binary32, round, of_bits}
use Rattle.half_band.specs.HbfTaps.{printed, hbf_taps}

abbrev pub patterns : List Float
patterns =
    of_bits binary32 0x354c1ca0
    ∷ of_bits binary32 0xb67d54ff
    ∷ of_bits binary32 0x3754298a
    ∷ of_bits binary32 0xb80ff18f
    ∷ of_bits binary32 0x38aa0374
    ∷ of_bits binary32 0xb9355fad
    ∷ of_bits binary32 0x39b2b373
    ∷ of_bits binary32 0xba250690
    ∷ of_bits binary32 0x3a90591b
    ∷ of_bits binary32 0xbaf115c6
    ∷ of_bits binary32 0x3b4169bf
    ∷ of_bits binary32 0xbb95d859
    ∷ of_bits binary32 0x3be13d20
    ∷ of_bits binary32 0xbc24ea4b
    ∷ of_bits binary32 0x3c6c41cc
    ∷ of_bits binary32 0xbca65173
    ∷ of_bits binary32 0x3ce764a5
    ∷ of_bits binary32 0xbd2034cc
    ∷ of_bits binary32 0x3d5f25f7
    ∷ of_bits binary32 0xbd9f2151
    ∷ of_bits binary32 0x3df0b023
    ∷ of_bits binary32 0xbe532243
    ∷ of_bits binary32 0x3f227468
    ∷ of_bits binary32 0xb73d441a
    ∷ of_bits binary32 0x38ec6699
    ∷ of_bits binary32 0xba1f3c90
    ∷ of_bits binary32 0x3b17fb1f
    ∷ of_bits binary32 0xbbe57b59
    ∷ of_bits binary32 0x3c920097
    ∷ of_bits binary32 0xbd2455e7
    ∷ of_bits binary32 0x3dacb60c
    ∷ of_bits binary32 0xbe3b9609
    ∷ of_bits binary32 0x3f20583f
    ∷ of_bits binary32 0x3a497bdf
    ∷ of_bits binary32 0xbbfbe0a1
    ∷ of_bits binary32 0x3d1e533d
    ∷ of_bits binary32 0xbe0f628a
    ∷ of_bits binary32 0x3f1bb8d1
    ∷ of_bits binary32 0xbb2b4411
    ∷ of_bits binary32 0x3ccae77a
    ∷ of_bits binary32 0xbdf8111c
    ∷ of_bits binary32 0x3f19562c
    ∷ of_bits binary32 0x3c4254d9
    ∷ of_bits binary32 0xbdc8debd
    ∷ of_bits binary32 0x3f161284
    ∷ []

pub taps_printed : patterns ≡ hbf_taps
unfolding hbf_taps printed round of_bits
taps_printed = refl
