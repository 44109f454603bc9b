-- The calls of a trace, played on the ordered cache.
use Rattle.std.specs.Prelude.{ℕ, List, [], ◌∷◌, replicate, Some, None, Ok, Err, Option, Result, slice_index}
use Rattle.disk.specs.Medium.{Entry, good, bad, Medium, cut, flushed}
use Rattle.precedence.specs.Stamps.{Precedence}
use Rattle.ordered_law.specs.Device.{Device}
use Rattle.ordered_law.specs.Events as events
use Rattle.ordered_law.specs.Cache.{Cache, Outcome, outcome}
use Rattle.ordered.specs.Opening.{made}
use Rattle.trace.specs.declared.call.TraceCall.{TraceCall}
use Rattle.trace.specs.declared.call.TraceCall.TheVariants as trace
use Rattle.trace.specs.Calls.{cut_choice}
use Rattle.listing.specs.declared.answer.Answer.{Answer}
use Rattle.listing.specs.declared.answer.Answer.TheVariants.{FirstByte, Opened}
use Rattle.listing.specs.declared.line.Line.{Line}
use Rattle.listing.specs.declared.play_error.PlayError.{PlayError}
use Rattle.listing.specs.declared.play_error.PlayError.TheVariants.{SealInOrder, Cache as Refused}
use Rattle.listing.specs.Answers.{numbered}
use Rattle.play.specs.Telling.{Played, answered, lines_by}

-- the plan once every bad entry before the first good one is taken
abbrev pub until_good : List Entry → List Entry
until_good [] = []
until_good (good ∷ es) = good ∷ es
until_good (bad ∷ es) = until_good es

-- opening is repeated until its flush is good; each one that fails takes its entry off the plan
abbrev pub opened_until : Medium → Medium
opened_until m = flushed (record { firm = m.firm; loose = m.loose; plan = until_good m.plan })

-- what is told of a call's answer: a number as the call has it, and the first byte of a block
abbrev pub value_of : TraceCall → events.Answer → Result Answer PlayError
value_of call (events.took n) = Ok (numbered call n)
value_of call (events.shown block) = Ok (FirstByte (slice_index block 0))
value_of call (events.counted n) = Ok (numbered call 0)
value_of call (events.refused e) = Err (Refused e)

abbrev pub valued : TraceCall → Outcome → Played Cache
valued call o = answered (value_of call o.answer) o.cache

-- A call on the cache. A begin writes a block of fill bytes, and a seal is refused.
abbrev pub called : Precedence → Device → TraceCall → Cache → Played Cache
called precedes device (trace.Begin place fill) c = valued (trace.Begin place fill) (outcome precedes device (events.Begin place (replicate 512 fill)) c)
called precedes device (trace.Finish ticket) c = valued (trace.Finish ticket) (outcome precedes device (events.Finish ticket) c)
called precedes device (trace.Withdraw ticket) c = valued (trace.Withdraw ticket) (outcome precedes device (events.Withdraw ticket) c)
called precedes device (trace.Read place) c = valued (trace.Read place) (outcome precedes device (events.Read place 512) c)
called precedes device trace.Step c = valued trace.Step (outcome precedes device events.Step c)
called precedes device trace.Seal c = answered (Err SealInOrder) c
called precedes device (trace.Restart choice) c = valued (trace.Restart choice) (outcome precedes device (events.Restart choice) c)
called precedes device (trace.Cut choice) c = answered (Ok Opened) c

-- a cut ends the cache, and its volume is taken up again
abbrev pub cut_by : Option ℕ → Cache → Cache
cut_by None c = c
cut_by (Some choice) c = made (opened_until (cut choice c.medium))

abbrev pub played : Precedence → Device → TraceCall → Cache → Played Cache
played precedes device call c = answered (called precedes device call c).answer (cut_by (cut_choice call) (called precedes device call c).left)

-- a line for each call
abbrev pub lines_from : Precedence → Device → Cache → List TraceCall → List Line
lines_from precedes device c calls = lines_by (played precedes device) c calls

-- the lines of a whole play over a disk that is taken up cold
abbrev pub ordered_lines : Precedence → Device → Medium → List TraceCall → List Line
ordered_lines precedes device m calls = lines_from precedes device (made (opened_until m)) calls
