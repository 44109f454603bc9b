-- Each way through a call comes out as the model says, and so the run goes on.
use Rattle.std.proofs.Common.{◌≡◌, ℕ, ◌+◌, Bool, true, false, cond, not, eqb, ltb, List, [], map, length, get_or, is_ok, Some, None, Ok, Err, Option, Result, sym, refl, ap, ◌∙◌, subst, ap₂, arith}
use borrow.Author.Tests.{clash}
use Rattle.disk.specs.declared.error.Kind.TheVariants as kind
use Rattle.disk.specs.Medium.{Block, Write, Effect, join, Medium, size, current, cut}
use Rattle.disk.specs.Calls as calls
use Rattle.disk.specs.Calls.{Fate, planned, WritesBy}
use Rattle.errors.specs.declared.CacheCall.TheVariants as during
use Rattle.errors.specs.declared.CacheError.{CacheError}
use Rattle.errors.specs.declared.CacheError.TheVariants.{Length, Place, PlaceOpen, NoRoom, NoMarks, NoTicket}
use Rattle.errors.specs.Errors.{raised}
use Rattle.precedence.specs.Stamps.{Precedence, Lawful}
use Rattle.table.specs.declared.held.Change.TheVariants as change_of
use Rattle.table.specs.declared.held.Query.TheVariants as query
use Rattle.table.specs.declared.scan.Candidate.{Candidate}
use Rattle.table.specs.declared.tally.Counts.{Counts}
use Rattle.table.specs.declared.tally.Tally.{Tally}
use Rattle.table.specs.Versions.{is_open, is_waiting, is_sent, some_pass, count, begun, reserved, room}
use Rattle.table.specs.Rows.{Row, in_rows, no_rows, bytes_of, test, changed, put}
use Rattle.table.specs.Scans.{lowest_ready, newest_at}
use Rattle.ordered_law.specs.Device.{Device}
use Rattle.ordered_law.specs.Events.{Answer, Call, took, shown, refused}
use Rattle.ordered_law.specs.Cache.{Cache, Outcome, fresh, opened, refuse, handed, last_mark, begin_refusal, unless, one_begun, begin_call, finish_call, one_withdrawn, withdraw_call, restart_call, read_through, read_call, settled_rows, flushed_rows, flushed_counts, flush_call, any_busy, any_sent, step_with, step_call, tally, outcome}
use Rattle.ordered_law.specs.Runs.{Ran, started, RunsOn}
use Rattle.ordered_law.proofs.Running.{lawful_runs, runs_on}
use Rattle.errors.specs.declared.Progress.{Progress}
use Rattle.errors.specs.declared.Progress.TheVariants.{Written, Flushed}
use Rattle.ordered.specs.Model.{gives, stepped, write_in, asked_write}
use Rattle.ordered.specs.Grants.{Job, jobs, handed_up}
use Rattle.ordered.specs.Opening.{flush_answer, flush_leaves, made, Starts}
use Rattle.ordered.specs.Reading.{read_as, buffer_after, read_answer, read_leaves, ReadsNewest}

-- a call that came out as the model says goes on with every run
pub goes_on : {precedes : Precedence} → Lawful precedes → (device : Device) (call : Call) {c d : Cache} {a : Answer} → gives a d ≡ outcome precedes device call c → RunsOn precedes call c a d
goes_on lawful device call e = runs_on lawful device call (ap (λ (o : Outcome). o.answer) e) (ap (λ (o : Outcome). o.cache) e)

-- any disk will do where the call makes no write
abbrev pub any_disk : Device
any_disk = record { rule = join; tries = 1 }

same_outcome : {a a' : Answer} {m m' : Medium} {l l' : List Row} {n n' : ℕ} {k k' : Counts} → a ≡ a' → m ≡ m' → l ≡ l' → n ≡ n' → k ≡ k' →
    gives a (record { medium = m; rows = l; counter = n; counts = k }) ≡ gives a' (record { medium = m'; rows = l'; counter = n'; counts = k' })
same_outcome p q s t u = λ i. record { answer = p i; cache = record { medium = q i; rows = s i; counter = t i; counts = u i } }

-- ---- begin

module _ (place : ℕ) (bytes : Block) (c : Cache) where
  abbrev pub Long : Bool
  Long = not (eqb (length bytes) 512)

  abbrev pub Far : Bool
  Far = not (ltb place (size c.medium))

  abbrev pub Taken : Bool
  Taken = some_pass (test (query.OpenAt place)) (in_rows c.rows)

  abbrev pub Late : Bool
  Late = ltb last_mark (c.counter + reserved (in_rows c.rows) + 2)

  abbrev refusal : Option CacheError
  refusal = begin_refusal (size c.medium) place bytes (in_rows c.rows) c.counter

  abbrev begun_so : List Row → Outcome
  begun_so l = gives (took (c.counter + 1)) (record { medium = c.medium; rows = l; counter = c.counter + 1; counts = one_begun c.counts })

  came : (o : Option CacheError) → refusal ≡ o → unless o (begun_so (put (begun place bytes (c.counter + 1)) c.rows)) (λ e. refuse e c) ≡ begin_call place bytes c
  came o e = ap (λ (x : Option CacheError). unless x (begun_so (put (begun place bytes (c.counter + 1)) c.rows)) (λ e. refuse e c)) (sym e)

  pub begin_1 : Long ≡ true → gives (refused Length) c ≡ begin_call place bytes c
  begin_1 a = came (Some Length) (rw a)

  pub begin_2 : Long ≡ false → Far ≡ true → gives (refused Place) c ≡ begin_call place bytes c
  begin_2 a b = came (Some Place) (rw (a, b))

  pub begin_3 : Long ≡ false → Far ≡ false → Taken ≡ true → gives (refused PlaceOpen) c ≡ begin_call place bytes c
  begin_3 a b x = came (Some PlaceOpen) (rw (a, b, x))

  pub begin_4 : Long ≡ false → Far ≡ false → Taken ≡ false → room (in_rows c.rows) ≡ false → gives (refused NoRoom) c ≡ begin_call place bytes c
  begin_4 a b x v = came (Some NoRoom) (rw (a, b, x, v))

  pub begin_5 : Long ≡ false → Far ≡ false → Taken ≡ false → room (in_rows c.rows) ≡ true → Late ≡ true → gives (refused NoMarks) c ≡ begin_call place bytes c
  begin_5 a b x v l = came (Some NoMarks) (rw (a, b, x, v, l))

  pub begin_0 : Long ≡ false → Far ≡ false → Taken ≡ false → room (in_rows c.rows) ≡ true → Late ≡ false → {l : List Row} → l ≡ put (begun place bytes (c.counter + 1)) c.rows →
      begun_so l ≡ begin_call place bytes c
  begin_0 a b x v l rows = ap begun_so rows ∙ came None (rw (a, b, x, v, l))

-- ---- finish, withdraw and restart

module _ (t : ℕ) (c : Cache) where
  abbrev found : Bool
  found = some_pass (test (query.Ticket t)) (in_rows c.rows)

  pub finish_refused : found ≡ false → gives (refused NoTicket) c ≡ finish_call t c
  finish_refused e = rw e

  pub finish_taken : found ≡ true → {l : List Row} → l ≡ map (changed (change_of.Finish t (c.counter + 1))) c.rows →
      gives (took (c.counter + 1)) (record { medium = c.medium; rows = l; counter = c.counter + 1; counts = c.counts }) ≡ finish_call t c
  finish_taken e l = rw (e, l)

  pub withdraw_refused : found ≡ false → gives (refused NoTicket) c ≡ withdraw_call t c
  withdraw_refused e = rw e

  pub withdraw_taken : found ≡ true → {k l : List Row} → k ≡ map (changed (change_of.Withdraw t)) c.rows → l ≡ map (changed change_of.Leave) k →
      gives (took 0) (record { medium = c.medium; rows = l; counter = c.counter; counts = one_withdrawn c.counts }) ≡ withdraw_call t c
  withdraw_taken e k l = rw (e, l, k)

pub restarted : (choice : ℕ) (c : Cache) {m : Medium} {l : List Row} → m ≡ cut choice c.medium → l ≡ map (changed change_of.WaitAgain) c.rows →
    gives (took 0) (record { medium = m; rows = l; counter = c.counter; counts = c.counts }) ≡ restart_call choice c
restarted choice c m l = same_outcome refl m l refl refl

-- ---- the step

module _ (precedes : Precedence) (rule : Write → Effect) (tries : ℕ) (c : Cache) where
  abbrev idle : Outcome
  idle = gives (took 0) c

  abbrev met : Option Candidate → Device
  met o = record { rule = rule (asked_write c.rows o); tries = tries }

  abbrev stepping : Outcome
  stepping = step_call precedes (met (lowest_ready precedes c.rows)) c

  step_by : (b : Bool) (o : Option Candidate) → any_busy (in_rows c.rows) ≡ b → lowest_ready precedes c.rows ≡ o → cond b (step_with (met o) c o) idle ≡ stepping
  step_by b o e f = ap₂ (λ (k : Bool) (x : Option Candidate). cond k (step_with (met x) c x) idle) (sym e) (sym f)

  pub step_idle : any_busy (in_rows c.rows) ≡ false → idle ≡ stepping
  step_idle e = step_by false (lowest_ready precedes c.rows) e refl

  -- ---- nothing is ready

  no_job : (o : Option Candidate) → None ≡ jobs c.rows o → o ≡ None
  no_job None e = refl
  no_job (Some n) e = let z : ◌≡◌ {A = ℕ} 0 1 = cc in absurd (omega arith)

  module _ (busy : any_busy (in_rows c.rows) ≡ true) (none : None ≡ jobs c.rows (lowest_ready precedes c.rows)) where
    quiet : (b : Bool) → any_sent (in_rows c.rows) ≡ b → cond b (flush_call (met None) c (planned c.medium)) (gives (took 3) c) ≡ stepping
    quiet b e = ap (λ k. cond k (flush_call (met None) c (planned c.medium)) (gives (took 3) c)) (sym e) ∙ step_by true None busy (no_job (lowest_ready precedes c.rows) none)

    pub step_blocked : any_sent (in_rows c.rows) ≡ false → gives (took 3) c ≡ stepping
    step_blocked e = quiet false e

    pub step_flushes : any_sent (in_rows c.rows) ≡ true → {r : Result Progress CacheError} {m : Medium} {l : List Row} {n : ℕ} {k : Counts} →
        r ≡ handed_up Flushed (flush_answer tries c.medium) → m ≡ flush_leaves c.medium → l ≡ flushed_rows c.rows (flush_answer tries c.medium) →
        n ≡ c.counter → k ≡ flushed_counts c.rows c.counts (flush_answer tries c.medium) →
        gives (stepped r) (record { medium = m; rows = l; counter = n; counts = k }) ≡ stepping
    step_flushes e a m l n k = same_outcome (ap stepped a ∙ answer_flushed (flush_answer tries c.medium)) m l n k ∙ quiet true e
      where
        answer_flushed : (x : calls.Answer) → stepped (handed_up Flushed x) ≡ handed during.Step (took 2) x
        answer_flushed (Ok u) = refl
        answer_flushed (Err x) = refl

  -- ---- a grant was issued

  a_job : (o : Option Candidate) (j : Job) → Some j ≡ jobs c.rows o → (n : Candidate) × (o ≡ Some n) × (j ≡ record { row = n.row; write = write_in (get_or c.rows n.row None) })
  a_job None j e = let z : ◌≡◌ {A = ℕ} 0 1 = cc in absurd (omega arith)
  a_job (Some n) j e = (n, refl, cc)

  answer_sent : (x : calls.Answer) → stepped (handed_up Written x) ≡ handed during.Step (took 1) x
  answer_sent (Ok u) = refl
  answer_sent (Err x) = refl

  pub step_sends : any_busy (in_rows c.rows) ≡ true → (j : Job) → Some j ≡ jobs c.rows (lowest_ready precedes c.rows) → {x : calls.Answer} {m : Medium} →
      WritesBy (rule j.write) tries c.medium j.write.place j.write.bytes x m →
      {r : Result Progress CacheError} {m' : Medium} {l : List Row} {n : ℕ} {k : Counts} → r ≡ handed_up Written x → m' ≡ m → l ≡ settled_rows c.rows j.row x → n ≡ c.counter → k ≡ c.counts →
      gives (stepped r) (record { medium = m'; rows = l; counter = n; counts = k }) ≡ stepping
  step_sends busy j some {x} {m} did a m' l n k =
      let g = a_job (lowest_ready precedes c.rows) j some in
      let did' = subst (λ (k : Job). WritesBy (rule k.write) tries c.medium k.write.place k.write.bytes x m) g.2 did in
      let l' = l ∙ ap (λ (k : Job). settled_rows c.rows k.row x) g.2 in
      same_outcome (ap stepped a ∙ answer_sent x ∙ ap (handed during.Step (took 1)) did'.answers) (m' ∙ did'.after) (l' ∙ ap (settled_rows c.rows g.0.row) did'.answers) n k
      ∙ step_by true (Some g.0) busy g.1

-- ---- opening

pub just_made : (n : Medium) {l : List Row} {k : Counts} → l ≡ no_rows → k ≡ record { begun = 0; withdrawn = 0; home = 0 } → ◌≡◌ {A = Cache} (record { medium = n; rows = l; counter = 0; counts = k }) (made n)
just_made n l k = λ i. record { medium = n; rows = l i; counter = 0; counts = k i }

pub run_starts : {precedes : Precedence} → Lawful precedes → (n : Medium) {c : Cache} → c ≡ made n → Starts precedes n c
run_starts {precedes} lawful n {c} e m f =
    let r = subst (Ran precedes (opened (fresh m)) []) (sym (e ∙ ap made f)) started in
    (r, lawful_runs precedes lawful m [] c r)

-- ---- the read

read_handed : (tries : ℕ) (m : Medium) (place : ℕ) (b : List ℕ) (met : Fate) →
    read_as (raised during.Read (calls.answer tries kind.Read place met)) (calls.shows m place b met) ≡ handed during.Read (shown (get_or (current m) place [])) (calls.answer tries kind.Read place met)
read_handed tries m place b calls.wrong_length = refl
read_handed tries m place b calls.wrong_place = refl
read_handed tries m place b calls.failed = refl
read_handed tries m place b calls.served = refl

buffer_handed : (tries : ℕ) (m : Medium) (place : ℕ) (b : List ℕ) (met : Fate) →
    calls.shows m place b met ≡ buffer_after b (handed during.Read (shown (get_or (current m) place [])) (calls.answer tries kind.Read place met))
buffer_handed tries m place b calls.wrong_length = refl
buffer_handed tries m place b calls.wrong_place = refl
buffer_handed tries m place b calls.failed = refl
buffer_handed tries m place b calls.served = refl

accepted_shows : (r : Result (Unit {0}) CacheError) (b : List ℕ) → is_ok r ≡ true → read_as r b ≡ shown b
accepted_shows (Ok u) b e = refl
accepted_shows (Err x) b e = absurd (clash e)

pub shows_newest : {precedes : Precedence} → Lawful precedes → (device : Device) (place n : ℕ) {c d : Cache} (r : Result (Unit {0}) CacheError) (b : List ℕ) →
    gives (read_as r b) d ≡ read_call device place n c → ReadsNewest precedes c place r b
shows_newest {precedes} lawful device place n {c} {d} r b e m es ran ok =
    (lawful_runs precedes lawful m es c ran).reads_newest device place n b (sym (ap (λ (o : Outcome). o.answer) e) ∙ accepted_shows r b ok)

module _ (device : Device) (place : ℕ) (b : List ℕ) (c : Cache) where
  abbrev short : Bool
  short = not (eqb (length b) 512)

  abbrev beyond : Bool
  beyond = not (ltb place (size c.medium))

  abbrev reading : Outcome
  reading = read_call device place (length b) c

  -- the outcome, and the buffer after it
  abbrev pub ReadAs : Outcome → List ℕ → Type 0
  ReadAs o b' = (o ≡ reading) × (b' ≡ buffer_after b reading.answer)

  so : (o : Outcome) (b' : List ℕ) → o ≡ reading → b' ≡ buffer_after b o.answer → ReadAs o b'
  so o b' e f = (e, f ∙ ap (λ (x : Outcome). buffer_after b x.answer) e)

  pub read_1 : short ≡ true → ReadAs (gives (refused Length) c) b
  read_1 e = so (gives (refused Length) c) b (rw e) refl

  pub read_2 : short ≡ false → beyond ≡ true → ReadAs (gives (refused Place) c) b
  read_2 e f = so (gives (refused Place) c) b (rw (e, f)) refl

  inside : (o : Option Candidate) → short ≡ false → beyond ≡ false → newest_at place c.rows ≡ o → read_through device place (length b) c o ≡ reading
  inside o e f g =
      ap (read_through device place (length b) c) (sym g)
      ∙ ap (λ k. cond k (refuse Place c) (read_through device place (length b) c (newest_at place c.rows))) (sym f)
      ∙ ap (λ k. cond k (refuse Length c) (cond beyond (refuse Place c) (read_through device place (length b) c (newest_at place c.rows)))) (sym e)

  pub read_table : short ≡ false → beyond ≡ false → (n : Candidate) → newest_at place c.rows ≡ Some n → {b' : List ℕ} → b' ≡ bytes_of (get_or c.rows n.row None) → ReadAs (gives (shown b') c) b'
  read_table e f n g {b'} h = so (gives (shown b') c) b' (ap (λ (x : List ℕ). gives (shown x) c) h ∙ inside (Some n) e f g) refl

  pub read_below : short ≡ false → beyond ≡ false → newest_at place c.rows ≡ None → {r : Result (Unit {0}) CacheError} {m : Medium} {b' : List ℕ} {l : List Row} {n : ℕ} {k : Counts} →
      r ≡ raised during.Read (read_answer device.tries c.medium place (length b)) → m ≡ read_leaves c.medium place (length b) → b' ≡ calls.shows c.medium place b (calls.fate c.medium place (length b)) →
      l ≡ c.rows → n ≡ c.counter → k ≡ c.counts → ReadAs (gives (read_as r b') (record { medium = m; rows = l; counter = n; counts = k })) b'
  read_below e f g {r} {m} {b'} a left shows l n k =
      let met = calls.fate c.medium place (length b) in
      let is = ap₂ read_as a shows ∙ read_handed device.tries c.medium place b met in
      so _ b' (same_outcome is left l n k ∙ inside None e f g) (shows ∙ buffer_handed device.tries c.medium place b met ∙ ap (buffer_after b) (sym is))

-- ---- the tally

pub tallied_as : (c : Cache) {o w s : ℕ} → o ≡ count is_open (in_rows c.rows) → w ≡ count is_waiting (in_rows c.rows) → s ≡ count is_sent (in_rows c.rows) →
    ◌≡◌ {A = Tally} (record { begun = c.counts.begun; withdrawn = c.counts.withdrawn; «open» = o; waiting = w; sent = s; home = c.counts.home }) (tally c)
tallied_as c o w s = λ i. record { begun = c.counts.begun; withdrawn = c.counts.withdrawn; «open» = o i; waiting = w i; sent = s i; home = c.counts.home }
