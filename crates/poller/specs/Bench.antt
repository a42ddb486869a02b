-- The poller of the test bench, over plain values.
use Rattle.std.specs.Prelude.{ℕ, if◌then◌else◌, List, [], ◌∷◌, ◌++◌, drop, get_or, Some, Ok, Err, vec_items, fold}
use Rattle.std.specs.VecDeque.{deque_items}
use Rattle.token.specs.Refusal.{refusal, refused}
use Rattle.poller.specs.declared.entry.Entry.{Entry}
use Rattle.poller.specs.declared.entry.Event.{Event}
use Rattle.poller.specs.declared.bench.Step.{Step}
use Rattle.poller.specs.declared.bench.Step.TheVariants.{Work, Fail, Interrupt}
use Rattle.poller.specs.declared.bench.BenchPoller.{BenchPoller}
use Rattle.poller.specs.Meaning.{Answer, Fate, add_of, modify_of, delete_of, among, leaving}
use Rattle.poller.specs.Places.{entries_of}
use Rattle.poller.specs.declared.entry.Request.{Request}
use Rattle.poller.specs.Register.{entry_of}
use Rattle.poller.specs.Reports.{ripe, reporting}

pub record BenchView : Type 0 where
  pub entries : List Entry
  -- the files that are ready
  pub ready : List ℕ
  -- what the next calls come to
  pub steps : List Step

-- a function and no model: the laws read the table's facts
abbrev pub bench_of : BenchPoller → BenchView
bench_of p = record { entries = entries_of p.table; ready = vec_items p.ready; steps = deque_items p.steps }

-- a call past the end of the plan works
abbrev pub step_of : List Step → Step
step_of ss = get_or ss 0 Work

-- add, modify and delete cannot be interrupted
abbrev pub fate_by : Step → Fate
fate_by (Fail c) = Err c
fate_by s = Ok tt

-- a call takes its step
abbrev pub stepped : BenchView → BenchView
stepped v = record v { steps = drop 1 v.steps }

-- a name, since `leaving` and `reporting` take the change as a function; one for each poller, since a change is of one
-- record's fields
abbrev pub with_entries : BenchView → List Entry → BenchView
with_entries v es = record v { entries = es }

abbrev pub bench_add : BenchView → Request → Answer × BenchView
bench_add v q = leaving (with_entries (stepped v)) (add_of 256 v.entries q (fate_by (step_of v.steps)))

abbrev pub bench_modify : BenchView → Request → Answer × BenchView
bench_modify v q = leaving (with_entries (stepped v)) (modify_of v.entries q (fate_by (step_of v.steps)))

abbrev pub bench_delete : BenchView → ℕ → Answer × BenchView
bench_delete v f = leaving (with_entries (stepped v)) (delete_of v.entries f (fate_by (step_of v.steps)))

-- a file is reported once in a wait, and only if its entry may be
abbrev pub once_more : List Entry → List ℕ → ℕ → List ℕ
once_more es fs f = if among f fs then fs else if ripe (entry_of f es) then fs ++ f ∷ [] else fs

-- the files of a wait, in the order in which they are ready
abbrev pub reported : List Entry → List ℕ → List ℕ
reported es ready = fold (once_more es) [] ready

-- a wait that reports leaves no file ready; any other leaves all as it was
abbrev pub wait_by : BenchView → Step → Answer × List Event × BenchView
wait_by v Work = reporting (with_entries (record (stepped v) { ready = [] })) v.entries (reported v.entries v.ready)
wait_by v (Fail c) = (refused 14 (Some c), [], stepped v)
wait_by v Interrupt = (refusal 15, [], stepped v)

abbrev pub bench_wait : BenchView → Answer × List Event × BenchView
bench_wait v = wait_by v (step_of v.steps)
