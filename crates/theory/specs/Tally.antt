-- 02, §4: a count beside a machine's states, to which each value adds, "holding at 2^32−1".
use Rattle.std.specs.Prelude.{ℕ, ◌+◌, ◌-◌, min}
use Rattle.theory.specs.Machines.{Machine}

-- c and n more, held at `most`; a count that is past it already stays
abbrev pub held_sum : ℕ → ℕ → ℕ → ℕ
held_sum most c n = c + min n (most - c)

module _ {S A C : Type 0} (most : ℕ) (adds : S → A → ℕ) (m : Machine S A C) where
  abbrev pub tallied : Machine (S × ℕ) A C
  tallied =
      record {
        due = λ p. m.due p.0;
        val = λ p. m.val p.0;
        after = λ p. (m.after p.0, p.1);
        next = λ p a. (m.next p.0 a, held_sum most p.1 (adds p.0 a));
        now = λ p a. m.now p.0 a;
      }
