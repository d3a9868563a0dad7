-- The lowest piece that isn't acknowledged, and which pieces may be sent.
use Rattle.std.proofs.Common.{◌==◌, ◌≡◌, ◌<◌, ◌≤◌, ◌+◌, ℕ, suc, List, [], ◌∷◌, length, None}
use Rattle.std.proofs.Common.{false, refl}
use Rattle.std.proofs.Common.{sym, ap, ◌∙◌, arith}
use Rattle.std.proofs.lemmas.Bool.Decides.{nat_tests}
use Rattle.rx_rules.specs.Received.{reach}
use Rattle.rx_rules.specs.Sent.{Sent, Giving, given_of, greatest_given, last_giving, is_acked}
use Rattle.rx_pool.specs.Pool.{Slots}
use Rattle.rx_sendwin.specs.Pieces.{giving_in}
use Rattle.rx_sendwin.specs.Window.{SendWindow, StandsSent, IsTied}
use Rattle.rx_sendwin.specs.Next.{again_of}
use Rattle.rx_sendwin.proofs.Acks.{lowest_reach, leading_within}
use Rattle.rx_sendwin.proofs.Standing.{known_is, counting_most}

pub lowest_is : (pool : Slots) (w : SendWindow) (s : Sent) (low flight : ℕ) → StandsSent pool w s →
    IsTied w low flight →
    reach (is_acked s) (given_of s) ≡ w.acked + low
lowest_is pool w s low flight st tied =
    (λ i. reach (sym (known_is pool w s st) i) (sym st.given i))
    ∙ lowest_reach w.acked w.given w.soft tied.acked_most tied.quiet ∙ ap (λ n. w.acked + n) (sym tied.lowest)

pub low_within : (w : SendWindow) (low flight : ℕ) → IsTied w low flight → w.acked + low ≤ w.given
low_within w low flight tied =
    let most = leading_within w.acked w.given w.soft tied.acked_most tied.quiet in
    let is = tied.lowest in
    omega (arith, most, is)

pub again_is : (pool : Slots) (w : SendWindow) (s : Sent) (low flight : ℕ) → StandsSent pool w s → IsTied w low flight →
    giving_in w.pieces low ≡ again_of s
again_is pool w s low flight st tied =
    st.givings low ∙ ap (λ k. last_giving s.givings (suc k)) (sym (lowest_is pool w s low flight st tied))

above_given : (gs : List Giving) (k : ℕ) → greatest_given gs < k → last_giving gs k ≡ None
above_given [] k lt = refl
above_given (g ∷ gs) k lt =
    let test : (g.seq == k) ≡ false = grind (arith, nat_tests, lt) in
    rw test (above_given gs k (omega (arith, lt)))

-- where it was never given
pub past_given : (pool : Slots) (w : SendWindow) (s : Sent) (low flight : ℕ) → StandsSent pool w s →
    IsTied w low flight → w.given ≤ w.acked + low → again_of s ≡ None
past_given pool w s low flight st tied past =
    let reached = lowest_is pool w s low flight st tied in
    let given = st.given in
    above_given s.givings (suc (reach (is_acked s) (given_of s))) (omega (arith, reached, given, past))

pub low_held : (w : SendWindow) (low flight : ℕ) → IsTied w low flight → w.acked + low < w.given → low < length w.pieces
low_held w low flight tied lt =
    let held = tied.held in
    let most = tied.given_most in
    let counted = counting_most w.total w.shut in
    omega (arith, lt, held, most, counted)
