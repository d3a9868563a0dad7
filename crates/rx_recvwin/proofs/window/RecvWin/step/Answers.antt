use Rattle.std.proofs.Common.{◌+◌, ◌≡◌, ◌∙◌, suc, true, is_some, sym, ap, subst, arith, rules}
use Rattle.rx_recvwin.specs.Places.{place_at, count_in, leading, HasSeqs, HasSizes}
use Rattle.rx_recvwin.specs.Window.{RecvWindow}
use Rattle.rx_recvwin.proofs.PlaceLaws.{leading_turned, count_turned, sized_turned, fits_moved}
use Rattle.rx_recvwin.proofs.window.RecvWin.step.Goals as goal

pub invariant_of-self : goal.invariant_of-self
invariant_of-self c =
    let hs = c.self.inside.places.items in
    let tied = c.self.invariant.2 in
    let taken : is_some (place_at hs 0) ≡ true = (
    subst (λ (w : RecvWindow). is_some (place_at w.places 0) ≡ true) (sym c.self.view_is) c.requires.taken) in
    let is = c.turn.ensures.turned in
    let lead : suc (leading c.turn.new.places.items) ≡ leading hs = (
    ap (λ ps. suc (leading ps)) is ∙ leading_turned hs taken) in
    let count : suc (count_in c.turn.new.places.items) ≡ count_in hs =
    ap (λ ps. suc (count_in ps)) is ∙ count_turned hs taken in (
      c.turn.ensures.len ∙ c.self.invariant.0,
      search rules,
      record {
        least = tied.least;
        most = tied.most;
        seqs = subst (HasSeqs (c.self.inside.used + 1)) (sym is) (fits_moved c.self.inside.used hs tied.seqs taken);
        sizes = subst HasSizes (sym is) (sized_turned hs tied.sizes);
        upto = omega (arith, tied.upto, lead);
        count = omega (arith, tied.count, count);
      },
    )

pub returns-clause-count : goal.returns-clause-count
returns-clause-count c =
    let hs = c.self.inside.places.items in
    let taken : is_some (place_at hs 0) ≡ true = (
    subst (λ (w : RecvWindow). is_some (place_at w.places 0) ≡ true) (sym c.self.view_is) c.requires.taken) in
    ap (λ ps. suc (count_in ps)) c.turn.ensures.turned ∙ count_turned hs taken
    ∙ ap (λ (w : RecvWindow). count_in w.places) c.self.view_is
