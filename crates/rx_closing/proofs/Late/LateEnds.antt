-- Where twelve seconds have passed in rounds in which a call stands: an end that hears nothing is silent; one that
-- gives nothing is near its ping, so they haven't passed; and two ends at work have come to rest.
use Rattle.std.proofs.Common.{◌≡◌, ◌<◌, ◌≤◌, ◌+◌, ◌-◌, ◌&&◌, nat_le, ℕ, suc, Bool, true, false, refl, ◌∙◌, arith, List}
use Rattle.std.proofs.lemmas.Bool.{le-leb}
use Rattle.rx_model.specs.declared.wire.TheConstants.{SILENCE_MS}
use Rattle.rx_model.specs.Message.{Message}
use Rattle.rx_rules.specs.Life.{is_active}
use Rattle.rx_rules.specs.Looks.{CallRecord}
use Rattle.rx_rules.specs.Records.{is_silent}
use Rattle.rx_rules.specs.Setup.{Setup, is_client}
use Rattle.rx_rules.specs.CallItems.{Sending, after_sending}
use Rattle.rx_rules.specs.CallLooks.{CallLooks}
use Rattle.rx_jobs.specs.Handlers.{Handlers}
use Rattle.rx_plan.specs.Stages.{Stage}
use Rattle.rx_rounds.proofs.Rounded.{RoundMade}
use Rattle.rx_closing.proofs.Ends.AtRest.{Rest}
use Rattle.rx_closing.proofs.Ends.BothEnds.{Ends, IsFit, Round}
use Rattle.rx_closing.proofs.Ends.LoneEnd.{Lone, LoneRound}
use Rattle.rx_closing.proofs.Ends.TurnLaws.{turn_keeps}
use Rattle.rx_closing.proofs.Late.RestLate.{Spaced, known_late, rest_late, spaced_more, spaced_none}
use Rattle.rx_closing.proofs.Polls.OnePoll.{sending_heard}
use Rattle.rx_closing.proofs.Rounds.Chains.{Chain, chain_both, chain_more, chain_none}
use Rattle.rx_closing.proofs.Steps.{GivesOut, gives_none, gives_one}
use Rattle.rx_closing.proofs.Sums.RoundLoads.{EachRound, EachStage}

-- ---- what an end gives leaves when it was heard

pub gives_heard : (s : Setup) (now : ℕ) (k : CallLooks) (xs : List Sending) (ms : List Message) (f : CallLooks)
    → GivesOut s now k xs ms f → f.heard ≡ k.heard
gives_heard s now k xs ms f (gives_none i idle) = refl
gives_heard s now k xs ms f (gives_one i g x m ys ns next given rest) =
    gives_heard s now (after_sending now x i) ys ns g rest ∙ sending_heard now x i

-- ---- one end

-- a round leaves when it was heard
pub round_heard : (s : Setup) (may : Bool) (e f : Lone) → LoneRound s may e f → f.end.heard ≡ e.end.heard
round_heard s may e f r =
    (turn_keeps e.now r.polled f.end r.turn).heard ∙ gives_heard s e.now e.end r.out r.gave r.polled r.gives

-- a call that was heard no later than twelve seconds ago is silent
pub silent_by : (now : ℕ) (r : CallRecord) → is_active r.life ≡ true → r.looks.heard + 12000 ≤ now
    → is_silent now r ≡ true
silent_by now r active long =
    (let size : SILENCE_MS ≡ 12000 = refl in
    let gone : SILENCE_MS ≤ now - r.looks.heard = omega (arith, long, size) in
    both (is_active r.life) (nat_le SILENCE_MS (now - r.looks.heard)) active
    (le-leb SILENCE_MS (now - r.looks.heard) gone))
  where
    both : (a b : Bool) → a ≡ true → b ≡ true → (a && b) ≡ true
    both true b is_a is_b = is_b
    both false b is_a is_b = absurd cc

module _ (g : Handlers) (z u : Stage) where
  one_more : (i : ℕ) (x v w : Stage) → Chain g i x v → RoundMade g v w → Chain g (i + 1) x w
  one_more i x v w front r = chain_both g i 1 x v w front (chain_more 0 v w w r (chain_none w))

  module _ (setup : Setup) (at : Stage → Lone) where
    -- through rounds of an end that hears nothing it was heard as before
    heard-from : EachRound g z u 2 (λ v w r. LoneRound setup true (at v) (at w)) → (k i n : ℕ) (x v : Stage)
        → Chain g k z x → Chain g i x v → Chain g n v u → 2 ≤ n → (at v).end.heard ≡ (at x).end.heard
    heard-from rounds k i n x v front (chain_none o) rest many = refl
    heard-from rounds k i n x v front (chain_more m o y w r others) rest many =
        heard-from rounds (k + 1) m n y w (one_more k z o y front r) others rest many
        ∙ round_heard setup true (at o) (at y)
        (rounds k (m + n) o y front r (chain_both g m n y w u others rest) (omega (arith, many)))

    pub heard_before : EachRound g z u 2 (λ v w r. LoneRound setup true (at v) (at w))
        → EachStage g z u 2 (λ v. (at v).end.heard ≡ (at z).end.heard)
    heard_before rounds i n v front rest many = heard-from rounds 0 i n z v (chain_none z) front rest many

    -- and through rounds in which it gives nothing it spoke as before
    spoke-from : EachRound g z u 2 (λ v w r. (at w).end.spoke ≡ (at v).end.spoke) → (k i n : ℕ) (x v : Stage)
        → Chain g k z x → Chain g i x v → Chain g n v u → 2 ≤ n → (at v).end.spoke ≡ (at x).end.spoke
    spoke-from rounds k i n x v front (chain_none o) rest many = refl
    spoke-from rounds k i n x v front (chain_more m o y w r others) rest many =
        spoke-from rounds (k + 1) m n y w (one_more k z o y front r) others rest many
        ∙ rounds k (m + n) o y front r (chain_both g m n y w u others rest) (omega (arith, many))

    pub spoke_before : EachRound g z u 2 (λ v w r. (at w).end.spoke ≡ (at v).end.spoke)
        → EachStage g z u 2 (λ v. (at v).end.spoke ≡ (at z).end.spoke)
    spoke_before rounds i n v front rest many = spoke-from rounds 0 i n z v (chain_none z) front rest many

    -- so no clock passes its ping
    pub quiet_near : EachRound g z u 2 (λ v w r. (at w).end.spoke ≡ (at v).end.spoke)
        → EachStage g z u 2 (λ v. (at v).now ≤ (at v).end.spoke + 2000) → (at z).end.spoke ≤ (at z).now
        → EachStage g z u 2 (λ v. (at v).now ≤ (at z).now + 2000)
    quiet_near rounds near spoke i n v front rest many =
        (let same = spoke_before rounds i n v front rest many in
        let low = near i n v front rest many in
        omega (arith, same, low, spoke))

  -- ---- both ends

  module _ (cs ss : Setup) (client : is_client cs.kind ≡ true) (server : is_client ss.kind ≡ false)
      (at : Stage → Ends) (rounds : EachRound g z u 2 (λ v w r. Round cs ss (at v) (at w)))
      (near : EachStage g z u 2 (λ v. (at v).client_now ≤ (at v).client.spoke + 2000)) where
    spaced-from : (k i n : ℕ) (x v : Stage) → Chain g k z x → Chain g i x v → Chain g n v u → 2 ≤ n
        → Spaced cs ss client server i (at x) (at v)
    spaced-from k i n x v front (chain_none o) rest many = spaced_none (at o) (near k n o front rest many)
    spaced-from k i n x v front (chain_more m o y w r others) rest many =
        spaced_more m (at o) (at y) (at w)
        (rounds k (m + n) o y front r (chain_both g m n y w u others rest) (omega (arith, many)))
        (near k (suc (m + n)) o front (chain_more (m + n) o y u r (chain_both g m n y w u others rest))
        (omega (arith, many)))
        (spaced-from (k + 1) m n y w (one_more k z o y front r) others rest many)

    pub spaced_to : (i n : ℕ) (v : Stage) → Chain g i z v → Chain g n v u → 2 ≤ n
        → Spaced cs ss client server i (at z) (at v)
    spaced_to i n v front rest many = spaced-from 0 i n z v (chain_none z) front rest many

    -- both ends are fit as a round begins
    fit-from : (k n m : ℕ) (x y : Stage) → Chain g k z x → Chain g n x y → Chain g m y u → 3 ≤ n
        → IsFit (at x).client_now (at x).client × IsFit (at x).server_now (at x).server
    fit-from k n m x y front (chain_none o) rest many = absurd (omega (arith, many))
    fit-from k n m x y front (chain_more h o w e r others) rest many =
        (let q = rounds k (h + m) o w front r (chain_both g h m w e u others rest) (omega (arith, many)) in
        (q.client_fit, q.server_fit))

    -- six seconds on both are at rest
    pub works_rest : EachStage g z u 4 (λ v. (at z).client_now + 6000 < (at v).client_now → Rest (at z))
    works_rest i n v front (chain_none o) many late = absurd (omega (arith, many))
    works_rest i n v front (chain_more m o x y r (chain_none p)) many late = absurd (omega (arith, many))
    works_rest i n v front (chain_more m o x y r (chain_more j p w q next others)) many late =
        (let rows = spaced_to i (suc (suc j)) o front (chain_more (suc j) o p y r (chain_more j p w y next others))
        (omega (arith, many)) in
        let first = rounds i (suc j) o p front r (chain_more j p w y next others) (omega (arith, many)) in
        let second = rounds (i + 1) j p w (one_more i z o p front r) next others (omega (arith, many)) in
        let all = chain_both g i (suc (suc j)) z o y front
        (chain_more (suc j) o p y r (chain_more j p w y next others)) in
        let fits = fit-from 0 (i + suc (suc j)) 0 z y (chain_none z) all (chain_none y) (omega (arith, many)) in
        let known = known_late cs ss client server i (at z) (at o) (at p) rows first fits.0.spoke late in
        rest_late cs ss client server i (at z) (at o) (at p) (at w) rows first second fits.0 fits.1 known
        (omega (arith, late)))
