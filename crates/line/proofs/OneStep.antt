-- One step of a machine where a place is left, with the next sample, if there is one: an output that is due, the sample taken, or none left.
use mathlib.Core.Path.{◌≡◌, sym, ap, ap₂, ◌∙◌}
use mathlib.Core.Bool.{Bool, true, false}
use Rattle.std.specs.Prelude.{Option, None, Some}
use Rattle.theory.specs.Machines.{Machine}
use Rattle.theory.specs.Feeds.{Event, wrote, stopped, Stepped, taking, step}
use Rattle.theory.proofs.Feeds.{step_due, step_not}

module _ {S A C : Type 0} (m : Machine S A C) (s : S) {place : Bool} (p : place ≡ true) where
  abbrev Does : Option A → Event C → S → Type 0
  Does x e s' = record { event = e; line = s' } ≡ step m place s x

  placed : (x : Option A) (e : Stepped S C) → e ≡ step m true s x → e ≡ step m place s x
  placed x e q = q ∙ sym (ap (λ (b : Bool). step m b s x) p)

  pub wrote_due : (x : Option A) (v : C) (s' : S) → m.due s ≡ true → v ≡ m.val s → s' ≡ m.after s → Does x (wrote v) s'
  wrote_due x v s' d ev es = placed x _ (ap₂ {C = Stepped S C} (λ (y : C) (t : S). record { event = wrote y; line = t }) ev es ∙ sym (step_due m s x d))

  pub took_sample : (x : Option A) (a : A) (o : Option C) (s' : S) → x ≡ Some a → m.due s ≡ false → o ≡ m.now s a → s' ≡ m.next s a → Does x (taking o) s'
  took_sample x a o s' e d eo es =
      rw e (placed (Some a) _ (ap₂ {C = Stepped S C} (λ (q : Option C) (t : S). record { event = taking q; line = t }) eo es ∙ sym (step_not m s (Some a) d)))

  pub none_left : (x : Option A) → x ≡ None → m.due s ≡ false → Does x stopped s
  none_left x e d = rw e (placed None _ (sym (step_not m s None d)))
