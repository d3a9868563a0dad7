use Rattle.std.proofs.Common.{◌≡◌, ◌<◌, ◌*◌, ◌∙◌, ℕ, Option, ap, arith, length, refl, subst, sym, None, Some}
use Rattle.std.specs.Prelude.{slice_set}
use Rattle.rx_due.specs.Book.{entries_of}
use Rattle.rx_model.specs.declared.names.Limits.{Limits}
use Rattle.rx_node.specs.Moments.{silence_at}
use Rattle.rx_node.proofs.KeptKeys.{kept_both, kept_key}
use Rattle.rx_books.proofs.ChannelMoments.{silence_key}
use Rattle.rx_books.proofs.Costs.{noted_cost}
use Rattle.rx_table.proofs.Noted.{one_fewer}
use Rattle.rx_books.proofs.Rebooked.{rebooked}
use Rattle.rx_books.proofs.SilentCalls.{ending_done, ending_next}
use Rattle.rx_books.proofs.silence.end_silent.Goals as goal

pub silent-init : goal.silent-init
silent-init g c =
    record {
      booked = c.requires;
      ending = λ l m. record { behind = l; mirrors = m; same = refl; paid = λ d power. (omega arith, omega arith) };
      same = record { kind = refl; limits = refl; prompt = refl; secret = refl; moment = refl; names = refl };
    }

pub silence_on-requires : goal.silence_on-requires
silence_on-requires g c =
    let silent = c.in-Some.ensures.silent in
    silence_key c.silent.core c.in-Some.key silent.moment
    (sym (c.silent.invariant.booked.each c.in-Some.key).silence ∙ silent.there)

pub refresh-requires-clause-key : goal.refresh-requires-clause-key
refresh-requires-clause-key g c =
    let silent = c.in-Some.ensures.silent in
    kept_key c.silent.core c.silence_on.new.self c.in-Some.key c.silence_on.ensures.same
    (silence_key c.silent.core c.in-Some.key silent.moment
    (sym (c.silent.invariant.booked.each c.in-Some.key).silence ∙ silent.there))

pub refresh-requires-clause-ranks : goal.refresh-requires-clause-ranks
refresh-requires-clause-ranks g c =
    c.silent.invariant.booked.ranks ∙ sym (ap (λ (l : Limits). 4 * l.conns) c.silence_on.ensures.same.limits)

pub refresh-requires-clause-silences : goal.refresh-requires-clause-silences
refresh-requires-clause-silences g c =
    c.silent.invariant.booked.silences ∙ sym (ap (λ (l : Limits). 4 * l.conns) c.silence_on.ensures.same.limits)

pub silent-preserved : goal.silent-preserved
silent-preserved g c =
    let class = g.C.Class.class_of in
    let n = c.silent.core in
    let z = c.silence_on.new.self in
    let key = c.in-Some.key in
    let silent = c.in-Some.ensures.silent in
    let was = c.silent.invariant in
    let dies : silence_at n key ≡ Some silent.moment = sym (was.booked.each key).silence ∙ silent.there in
    let booked = rebooked n z c.silent.books was.booked c.silence_on.ensures.same.limits c.refresh.new.self key
    c.silence_on.ensures.others c.refresh.ensures.noted c.refresh.ensures.keeps in
    let look = c.in-Some.ensures.steps in
    let ends = c.silence_on.ensures.steps_taken in
    let notes = noted_cost n z c.silent.books c.refresh.new.self (length n.table.conns) refl c.silence_on.ensures.same
    was.booked booked c.silence_on.new.steps c.refresh.new.steps c.refresh.ensures.steps in
    record {
      booked = booked;
      ending = λ m mirrors. ending_next class n m z key silent.moment c.args.steps.now c.silent.steps
          c.refresh.new.steps dies
          (let now = c.moment.ensures in let low = silent.passed in omega (arith, now, low))
          c.silence_on.ensures.silenced (was.ending m mirrors)
          (λ d power. (
          let all = notes d power in
          record {
            grows = omega (arith, look.grows, ends.grows, all.grows);
            most = omega (arith, look.most, ends.most, all.most);
          }));
      same = kept_both c.args.core.now n z was.same c.silence_on.ensures.same;
    }

pub silent-smaller : goal.silent-smaller
silent-smaller g c =
    let key = c.in-Some.key in
    let silent = c.in-Some.ensures.silent in
    let was = c.silent.invariant.booked in
    let death : silence_at c.silent.core key ≡ Some silent.moment = sym (was.each key).silence ∙ silent.there in
    let now = c.moment.ensures in
    let low = silent.passed in
    let none : silence_at c.silence_on.new.self key ≡ None =
    c.silence_on.ensures.ends silent.moment death (omega (arith, now, low)) in
    let fewer = one_fewer c.silent.books.silences key silent.moment silent.there in
    let same : entries_of c.refresh.new.self.silences ≡ entries_of (slice_set c.silent.books.silences key None) =
    ap entries_of c.refresh.ensures.silences
    ∙ ap (λ (o : Option ℕ). entries_of (slice_set c.silent.books.silences key o)) none in
    omega (arith, fewer, same)

pub returns-clause-silenced : goal.returns-clause-silenced
returns-clause-silenced g c =
    λ l m. ending_done g.C.Class.class_of c.silent.core l c.silent.books c.silent.invariant.booked
    (λ key moment is. subst (λ (t : ℕ). t < moment) c.moment.ensures (c.in_default.ensures.none refl key moment is))
    c.args.steps.now c.silent.steps (c.silent.invariant.ending l m)

pub returns-clause-steps : goal.returns-clause-steps
returns-clause-steps g c =
    λ l d m power. (
    let paid = (c.silent.invariant.ending l m).paid d power in
    let look = c.in_default.ensures.steps in
    record { grows = omega (arith, paid.0, look.grows); most = omega (arith, paid.1, look.most) })
