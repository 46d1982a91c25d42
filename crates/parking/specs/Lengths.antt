-- The lengths of a line's arrays, which are their types'.
use Rattle.std.specs.Prelude.{◌≡◌, length}
use Rattle.integer.specs.declared.cic_decimator.CicDecimator.{CicDecimator}
use Rattle.q15.specs.FirDecimator.{most_taps}
use Rattle.q15.specs.declared.fir_decimator.FirDecimator.{FirDecimator}
use Rattle.half_band.specs.declared.hbf_stream.HbfStream.{HbfStream}
use Rattle.float.specs.declared.polyphase_resamp.PolyphaseResampF32.{PolyphaseResampF32}

pub record ArrayLengths (d : CicDecimator) (f : FirDecimator) (s : HbfStream) (p : PolyphaseResampF32) : Type 0 where
  pub integrators : length d.integrator_state ≡ 8
  pub combs : length d.comb_state ≡ 8
  pub taps : length f.taps ≡ most_taps
  pub fir_delay : length f.delay ≡ most_taps
  pub delays : length s.delays ≡ 480
  pub held : length s.held ≡ 5
  pub counts : length s.counts ≡ 5
  pub delay : length p.delay ≡ 16
  pub prototype : length p.prototype ≡ 1024
