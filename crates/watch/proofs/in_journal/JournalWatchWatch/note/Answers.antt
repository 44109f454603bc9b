use Rattle.std.proofs.Common.{sym, ap, ◌∙◌}
use Rattle.trace.specs.declared.call.TraceCall.{TraceCall}
use Rattle.watch.specs.InJournal.{with_writes, opens_more, followed_after}
use Rattle.watch.proofs.in_journal.JournalWatchWatch.note.Goals as goal

pub returns-in-Begin-clause-after : goal.returns-in-Begin-clause-after
returns-in-Begin-clause-after c =
    let f = c.args.self.now in
    c.begun.ensures
    ∙ ap (λ place. with_writes f (opens_more place c.in-Begin.fill c.args.value f.open_writes) f.collected) c.from.ensures
    ∙ sym (ap (λ (call : TraceCall). followed_after call c.args.value f) c.in-Begin.is)
