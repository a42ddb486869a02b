-- What a factory draws, and the two cases of a draw.
use Rattle.std.proofs.Common.{◌≡◌, ◌<◌, ℕ, Bool, true, false, refl, arith}
use Rattle.std.specs.Prelude.{nat_lt, if◌then◌else◌}
use Rattle.std.proofs.lemmas.Grind.{common_steps}
use Rattle.token.specs.declared.token.Token.{Token}
use Rattle.token.specs.Drawing.{draw_of, next_sub_id}
use Rattle.token.specs.Key.{key_of}
use Rattle.token.specs.Refusal.{Outcome, done, refusal}
use Rattle.rules.specs.Meaning.{Drawer, Drawn, Forward, Nothing}

pub draw_cases : (d : Drawer) (P : Outcome Token → Drawer → Type 0) → (d.sub_id < 65535 → P (done d) (next_sub_id d)) → P (refusal 8) d → P (draw_of d).0 (draw_of d).1
draw_cases d P drawn spent = at (nat_lt d.sub_id 65535) refl
  where
    at : (b : Bool) → nat_lt d.sub_id 65535 ≡ b → (λ (o : Outcome Token × Token). P o.0 o.1) (if b then (done d, next_sub_id d) else (refusal 8, d))
    at true e = drawn (grind (arith, common_steps))
    at false e = spent

pub stays_put : (d : Drawer) → Forward d d
stays_put d = record { id = refl; version = refl; sub_id = omega arith; few = λ l. l }

pub steps_on : (d : Drawer) → d.sub_id < 65535 → Forward d (next_sub_id d)
steps_on d l = record { id = refl; version = refl; sub_id = omega arith; few = λ f. omega arith }

pub drawn_key : (d : Drawer) → Drawn d (next_sub_id d) (key_of d)
drawn_key d = (d.sub_id, omega arith, omega arith, refl)

pub none_drawn : (D : ℕ → Type 0) (k : ℕ) → Nothing k → D k
none_drawn D k n = elim n [ ]
