use Rattle.std.proofs.Common.{◌≡◌, ◌<◌, ◌+◌, ◌*◌, ◌/◌, ◌∙◌, refl, subst, sym, arith, ℕ}
use Rattle.rx_node.proofs.Steps.TableSteps.{decided}
use Rattle.rx_books.specs.Books.{IsNoted}
use Rattle.rx_books.proofs.Rebooked.{noted_still}
use Rattle.rx_books.proofs.books.Books.refresh_place.Goals as goal

pub loop-chan-init : goal.loop-chan-init
loop-chan-init g c =
    record {
      noted = λ q place low. absurd (omega (arith, place, low));
      keeps = record { ranks = refl; silences = refl; rank = λ q apart. refl; silence = λ q apart. refl };
    }

pub overflow_mul-place : goal.overflow_mul-place
overflow_mul-place g c = omega (arith, c.requires.place, c.conns-conns.ensures.count, c.conns-conns.ensures.few)

pub overflow_add-place : goal.overflow_add-place
overflow_add-place g c =
    omega (arith, c.requires.place, c.conns-conns.ensures.count, c.conns-conns.ensures.few, c.loop-chan-test.true)

pub refresh_now-requires-clause-key : goal.refresh_now-requires-clause-key
refresh_now-requires-clause-key g c = omega (arith, c.requires.place, c.loop-chan-test.true)

pub refresh_now-requires-clause-ranks : goal.refresh_now-requires-clause-ranks
refresh_now-requires-clause-ranks g c = c.loop-chan.invariant.keeps.ranks ∙ c.requires.ranks

pub refresh_now-requires-clause-silences : goal.refresh_now-requires-clause-silences
refresh_now-requires-clause-silences g c = c.loop-chan.invariant.keeps.silences ∙ c.requires.silences

pub loop-chan-preserved : goal.loop-chan-preserved
loop-chan-preserved g c =
    let place = c.args.place in
    let chan = c.loop-chan.chan in
    let key : ℕ = 4 * place + chan in
    let node = c.args.node.now in
    let was = c.loop-chan.invariant in
    let now = c.refresh_now.ensures in
    record {
      noted = λ q its low. decided (IsNoted node c.refresh_now.new.self q) q key
          (λ same. subst (λ (k : ℕ). IsNoted node c.refresh_now.new.self k) (sym same) now.noted)
          (λ apart. noted_still node c.loop-chan.self c.refresh_now.new.self q (now.keeps.rank q apart)
          (now.keeps.silence q apart) (was.noted q its (omega (arith, low, apart))));
      keeps = record {
        ranks = now.keeps.ranks ∙ was.keeps.ranks;
        silences = now.keeps.silences ∙ was.keeps.silences;
        rank = λ q apart. now.keeps.rank q (λ same. apart (aside place chan q same c.loop-chan-test.true))
            ∙ was.keeps.rank q apart;
        silence = λ q apart. now.keeps.silence q (λ same. apart (aside place chan q same c.loop-chan-test.true))
            ∙ was.keeps.silence q apart;
      };
    }
  where
    aside : (place chan q : ℕ) → q ≡ 4 * place + chan → chan < 4 → q / 4 ≡ place
    aside place chan q same low = omega (arith, same, low)

pub returns-clause-noted : goal.returns-clause-noted
returns-clause-noted g c =
    λ q place. c.loop-chan.invariant.noted q place
    (omega (arith, place, c.loop-chan-test.false, c.loop-chan.auto.chan-end))

pub returns-clause-keeps : goal.returns-clause-keeps
returns-clause-keeps g c = c.loop-chan.invariant.keeps
