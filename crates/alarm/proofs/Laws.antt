-- An alarm keeps the rules of source kinds.
use Rattle.std.proofs.Common.{◌<◌, ◌≡◌, ℕ, ◌+◌, ◌^◌, List, [], ◌∷◌, Some, None, Option, nat_lt, sym, refl, ap, subst, inl, inr}
use Rattle.std.proofs.lemmas.Bool.{cond_both}
use Rattle.std.specs.List.{All}
use Rattle.std.proofs.lemmas.List.Elements.{All-cons, All-nil}
use Rattle.token.specs.declared.token.Token.{Token}
use Rattle.token.specs.Drawing.{next_sub_id}
use Rattle.token.specs.Key.{key_of}
use Rattle.token.specs.Refusal.{Outcome, done, refusal}
use Rattle.post_action.specs.declared.PostAction.{PostAction}
use Rattle.post_action.specs.declared.PostAction.TheVariants.{Continue}
use Rattle.timer_wheel.specs.Wheel.{Wheel}
use Rattle.poller.specs.Meaning.{Answer}
use Rattle.sys.specs.Laws.{In}
use Rattle.sys.specs.World.{Exchange, World, read, with_timers}
use Rattle.rules.specs.Calls.{Came, Went, came, went}
use Rattle.rules.specs.Kinds.{Enters, Free, Grown, LettingGo, Processing, Reaches, Reads, Registering, Reregistering, Unregistering}
use Rattle.rules.specs.Meaning.{Drawer, Drawn, Forward, Nothing}
use Rattle.rules.proofs.Refusals.{none_handed}
use Rattle.rules.specs.Refusals.{HandedOn, RefusedBy, by_event, by_registration}
use Rattle.rules.specs.Timers.{Timers}
use Rattle.rules.proofs.Drawing.{draw_cases, drawn_key, stays_put, steps_on}
use Rattle.rules.proofs.Files.{keeps_same}
use Rattle.rules.proofs.Lines.{lines_same}
use Rattle.rules.proofs.Steps.{reaches_then}
use Rattle.rules.proofs.Timers.{cancel_timers, insert_cases, insert_timers, reuse_cases, reuse_timers, timers_fewer, timers_same}
use Rattle.alarm.specs.declared.alarm.Alarm.{Alarm}
use Rattle.alarm.specs.declared.alarm.Registration.{Registration}
use Rattle.alarm.specs.declared.alarm.TimeoutAction.{TimeoutAction}
use Rattle.alarm.specs.declared.alarm.TimeoutAction.TheVariants.{Drop, ToInstant, ToDuration}
use Rattle.alarm.specs.Calls.{cancel_by, counters_of, drawn, inserted, meaning, register_by, reregister_by, rung_by, set_at, set_to, wheel_after, with_deadline, with_registration}

-- only the timers changed
alarm_reaches : (D : ℕ → Type 0) (s s' : Alarm) (w : World) (t' : Wheel) → Timers D (counters_of s.registration) w.wheel (counters_of s'.registration) t'
    → Reaches D (meaning s) w [] (meaning s') (with_timers w t')
alarm_reaches D s s' w t' t = record {
  files = keeps_same D [] [] w.entries w.entries refl;
  timers = t;
  enters = All-nil (Enters D);
  level = λ c. c;
  lines = λ sound c. lines_same D [] w.lines;
  most = refl;
  hooks = refl;
}

module _ (s : Alarm) where
  bare : Free (meaning (with_registration s None))
  bare = record { held = refl; entered = refl; counters = refl }

  forgets : (D : ℕ → Type 0) (w : World) → Reaches D (meaning s) w [] (meaning (with_registration s None)) w
  forgets D w = alarm_reaches D s (with_registration s None) w w.wheel (timers_fewer D _ [] w.wheel (λ j m. elim m [ ]))

  -- REGISTERING

  abbrev Fine : World → Drawer → Came Alarm → Type 0
  Fine w d c = Registering (meaning s) w d c.exchanges c.answer (meaning c.source) c.world c.drawer

  -- nothing is entered
  unregistered : (w : World) (d d' : Drawer) (r : Answer) → Forward d d' → RefusedBy by_registration r → HandedOn [] r → Fine w d (came [] r (with_registration s None) w d')
  unregistered w d d' r f by handed = record { reaches = forgets _ w; draws = f; drew = λ j m. elim m [ ]; refusing = λ m b e. bare; refusals = by; handed = handed }

  enters : (w : World) (d : Drawer) (deadline : ℕ) → d.sub_id < 65535 → Fine w d (drawn s deadline (done d) w (next_sub_id d))
  enters w d deadline l =
      let D = Drawn d (next_sub_id d) in
      insert_cases deadline d w.wheel (λ o t. Fine w d (inserted s d w (next_sub_id d) o t))
      (unregistered w d (next_sub_id d) (refusal 16) (steps_on d l) (refl, refl) (none_handed [] 16 None refl))
      (unregistered w d (next_sub_id d) (refusal 17) (steps_on d l) (refl, refl) (none_handed [] 17 None refl))
      (record {
        reaches = alarm_reaches D s (with_registration s (Some (record { token = d; counter = w.wheel.next }))) w _ (insert_timers D _ deadline d w.wheel (drawn_key d));
        draws = steps_on d l;
        drew = λ k m. elim m [ inl e ↦ subst D (sym e) (drawn_key d) | inr q ↦ elim q [ ] ];
        refusing = λ n c e. cc;
        refusals = tt;
        handed = tt;
      })

  registering : (w : World) (d : Drawer) (deadline : Option ℕ) → Fine w d (register_by s deadline w d)
  registering w d None = unregistered w d d (done tt) (stays_put d) tt tt
  registering w d (Some deadline) = draw_cases d (λ o d'. Fine w d (drawn s deadline o w d')) (enters w d deadline) (unregistered w d d (refusal 8) (stays_put d) (refl, refl) (none_handed [] 8 None refl))

  pub registers_lawful : (w : World) (d : Drawer) (c : Came Alarm) → c ≡ register_by s s.deadline w d → Fine w d c
  registers_lawful w d c e = subst (Fine w d) (sym e) (registering w d s.deadline)

  -- CANCELLING

  cancels : (r : Option Registration) (t : Wheel) → Timers Nothing (counters_of r) t [] (wheel_after r t)
  cancels None t = timers_same Nothing [] t t refl
  cancels (Some r) t = cancel_timers Nothing (r.counter ∷ []) [] r.counter t (inl refl) (λ j m. elim m [ ])

  cancel_reaches : (w : World) → Reaches Nothing (meaning s) w [] (meaning (with_registration s None)) (cancel_by s w).world
  cancel_reaches w = alarm_reaches Nothing s (with_registration s None) w _ (cancels s.registration w.wheel)

  pub unregisters_lawful : (w : World) (c : Went (Unit {0}) Alarm) → c ≡ cancel_by s w → Unregistering (meaning s) w c.exchanges c.answer (meaning c.source) c.world
  unregisters_lawful w c e =
      subst (λ (x : Went (Unit {0}) Alarm). Unregistering (meaning s) w x.exchanges x.answer (meaning x.source) x.world) (sym e)
      (record { reaches = cancel_reaches w; drew = λ k m. elim m [ ]; accepting = λ e. refl; refusals = tt; handed = tt })

  pub leaves_lawful : (w : World) (c : Went (Unit {0}) Alarm) → c ≡ cancel_by s w → LettingGo (meaning s) w c.exchanges (meaning c.source) c.world
  leaves_lawful w c e =
      subst (λ (x : Went (Unit {0}) Alarm). LettingGo (meaning s) w x.exchanges (meaning x.source) x.world) (sym e)
      (record { reaches = cancel_reaches w; drew = λ k m. elim m [ ]; free = bare })

-- cancelled, then registered
pub reregisters_lawful : (s : Alarm) (w : World) (d : Drawer) (c : Came Alarm) → c ≡ reregister_by s w d
    → Reregistering (meaning s) w d c.exchanges c.answer (meaning c.source) c.world c.drawer
reregisters_lawful s w d c e =
    let off = with_registration s None in
    let v = (cancel_by s w).world in
    let r = registers_lawful off v d c e in
    let D = Drawn d c.drawer in
    record {
      reaches = reaches_then D (meaning s) (meaning off) (meaning c.source) w v c.world [] c.exchanges (cancel_reaches s w) r.reaches;
      draws = r.draws;
      drew = λ k m. inr (r.drew k m);
      accepting = λ a k m. r.drew k m;
      refusals = r.refusals;
      handed = r.handed;
    }

-- EVENTS

-- what the handler asked for stands behind what stood before
module _ {E : Type 0} (s : Alarm) (t : Token) (es es' : List E) (w : World) (grown : Grown es es') where
  abbrev Rings : Went PostAction Alarm → Type 0
  Rings c = Processing (meaning s) w t es c.exchanges c.answer (meaning c.source) c.world es'

  abbrev Event : ℕ → Type 0
  Event k = k ≡ key_of t

  -- the wheel stays
  stays : (deadline : Option ℕ) (r : Outcome PostAction) (xs : List Exchange) → RefusedBy by_event r → All Reads xs → Rings (went xs r (with_deadline s deadline) w)
  stays deadline r xs by a = record { world = refl; asks = a; same = refl; timers = timers_same Event _ w.wheel w.wheel refl; errands = grown; refusals = by }

  sets : (x : Registration) (next : ℕ) (xs : List Exchange) → s.registration ≡ Some x → x.token ≡ t → All Reads xs → Rings (set_at s x next w xs)
  sets x next xs registered token a =
      let mine : In x.counter (counters_of s.registration) = subst (λ (o : Option Registration). In x.counter (counters_of o)) (sym registered) (inl refl) in
      reuse_cases x.counter next x.token w.wheel (λ o t'. Rings (set_to s next w xs o t'))
      (stays s.deadline (refusal 16) xs (refl, refl) a)
      (record {
        world = refl;
        asks = a;
        same = refl;
        timers = reuse_timers Event _ x.counter next x.token w.wheel mine (ap key_of token);
        errands = grown;
        refusals = tt;
      })

  rings_on : (x : Registration) (action : TimeoutAction) (now : ℕ) → s.registration ≡ Some x → x.token ≡ t → Rings (rung_by s x action now w)
  rings_on x Drop now registered token = stays s.deadline _ [] tt (All-nil Reads)
  rings_on x (ToInstant next) now registered token = sets x next [] registered token (All-nil Reads)
  rings_on x (ToDuration period) now registered token =
      let reads = All-cons Reads (read now) [] tt (All-nil Reads) in
      cond_both (nat_lt (now + period) (2 ^ 64)) _ _ Rings (λ e. sets x (now + period) (read now ∷ []) registered token reads) (λ e. stays None _ (read now ∷ []) tt reads)

  -- its own event
  pub rings_lawful : (x : Registration) (action : TimeoutAction) (now : ℕ) (c : Went PostAction Alarm) → s.registration ≡ Some x → x.token ≡ t → c ≡ rung_by s x action now w → Rings c
  rings_lawful x action now c registered token e = subst Rings (sym e) (rings_on x action now registered token)

  -- any other
  pub stays_lawful : (c : Went PostAction Alarm) → c ≡ went [] (done Continue) s w → Rings c
  stays_lawful c e = subst Rings (sym e) (stays s.deadline _ [] tt (All-nil Reads))
