-- The rule of the files, but for which entries are armed: what a call keeps it keeps there too, and a wait changes nothing.
use Rattle.std.proofs.Common.{◌≡◌, ℕ, List, [], ◌∷◌, map, refl, arith}
use Rattle.std.specs.List.{IsDistinct}
use Rattle.std.specs.Option.{option_map}
use Rattle.std.proofs.lemmas.Grind.{common_steps}
use Rattle.poller.specs.declared.entry.Entry.{Entry}
use Rattle.poller.specs.Register.{disarmed, entry_of}
use Rattle.rules.specs.Meaning.{Held}
use Rattle.rules.specs.Files.{Files, Keeps, Sound}
use Rattle.kinds_tests.specs.Leftovers.{OnlyStuckJoin}

disarmed_of : (f : ℕ) (es : List Entry) → entry_of f (map disarmed es) ≡ option_map disarmed (entry_of f es)
disarmed_of f [] = refl
disarmed_of f (e ∷ es) = grind (arith, common_steps, disarmed_of f es)

pub sound_armed : (h : List Held) (o : List ℕ) (es : List Entry) → Sound h o (map disarmed es) → Sound h o es
sound_armed h o es s = grind (arith, common_steps, λ (f : ℕ). disarmed_of f es)

pub sound_disarmed : (h : List Held) (o : List ℕ) (es : List Entry) → Sound h o es → Sound h o (map disarmed es)
sound_disarmed h o es s = grind (arith, common_steps, λ (f : ℕ). disarmed_of f es)

pub keeps_disarmed : (D : ℕ → Type 0) (h h' : List Held) (o o' : List ℕ) (es es' : List Entry) → Keeps D h o es h' o' es' → Keeps D h o (map disarmed es) h' o' (map disarmed es')
keeps_disarmed D h h' o o' es es' keeps sound =
    let r : Files D h o es h' o' es' = keeps (sound_armed h o es sound) in
    record {
      others = λ f n e i. grind (arith, common_steps, disarmed_of f es, disarmed_of f es', r.others f n);
      sound = sound_disarmed h' o' es' r.sound;
      only = λ f e i. grind (arith, common_steps, disarmed_of f es, disarmed_of f es', r.only f);
      keys = λ f e i. grind (arith, common_steps, disarmed_of f es, disarmed_of f es', r.keys f);
      fresh = λ f i. grind (arith, common_steps, disarmed_of f es, r.fresh f i);
    }

-- A source that held nothing and holds nothing again: only stuck entries joined.
sound_free : (es : List Entry) → Sound [] [] es
unfolding IsDistinct
sound_free es = record { stands = λ x i. absurd i; own = λ x i. absurd i; rest = λ f i. absurd i; once = tt }

pub keeps_free : (D : ℕ → Type 0) (h h' : List Held) (o o' : List ℕ) (es es' : List Entry) → h ≡ [] → o ≡ [] → o' ≡ []
    → Keeps D h o es h' o' es' → OnlyStuckJoin es es'
keeps_free D h h' o o' es es' a b c keeps =
    let r : Files D h o es h' o' es' = keeps (rw a (rw b (sound_free es))) in
    record {
      stay = λ f e i. r.others f (λ m. grind (arith, common_steps, b)) e i;
      join = λ f e i. grind (arith, common_steps, c, r.only f e i);
    }
