-- The idles that wait, in the order in which they came, at most 64.
use Rattle.std.specs.Prelude.{ℕ, ◌+◌, Bool, if◌then◌else◌, ◌||◌, List, [], ◌∷◌, ◌++◌, length, ◌==◌, nat_le}
use Rattle.token.specs.Refusal.{Outcome, done, refusal}
use Rattle.list.specs.declared.idles.Idle.{Idle}

-- the idles, the oldest first, and the ticket of the next one
pub record Waiting : Type 0 where
  pub idles : List Idle
  pub next_ticket : ℕ

abbrev pub none_waiting : Waiting
none_waiting = record { idles = []; next_ticket = 0 }

-- 64 places are taken, or the tickets are spent: the ticket 4,294,967,295 is never given out
abbrev pub full : Waiting → Bool
full w = nat_le 64 (length w.idles) || w.next_ticket == 4294967295

-- the idle stands last, under the next ticket, which is answered
abbrev pub idle_of : ℕ → Waiting → Outcome ℕ × Waiting
idle_of value w =
    if full w then (refusal 5, w)
    else (done w.next_ticket, record { idles = w.idles ++ record { ticket = w.next_ticket; value = value } ∷ []; next_ticket = w.next_ticket + 1 })
