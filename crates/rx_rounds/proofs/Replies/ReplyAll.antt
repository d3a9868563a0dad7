-- All rounds of a reply and of a code: within four for each piece of the reply its caller has all of it; within one its
-- caller has the code.
use Rattle.std.proofs.Common.{◌≡◌, ◌<◌, ◌≤◌, ◌+◌, ◌-◌, ◌*◌, ◌^◌, ℕ, ℤ, suc, zero, true, List, [], ◌∷◌, refl}
use Rattle.std.proofs.Common.{◌∙◌, Some, arith}
use Rattle.rx_model.specs.declared.answers.End.{End}
use Rattle.rx_model.specs.declared.answers.End.TheVariants as ends
use Rattle.rx_script.specs.Served.{Served, bytes, refusal}
use Rattle.rx_jobs.specs.Handlers.{Handlers, served_for}
use Rattle.rx_plan.specs.Rounds.{rounds}
use Rattle.rx_plan.specs.Stages.{Stage}
use Rattle.rx_events.specs.Waits.{any_lives}
use Rattle.rx_rounds.proofs.Between.{EndsWith, HasCome, Refusing, Replying, caller_with, client_at, server_at}
use Rattle.rx_rounds.proofs.Flow.{total}
use Rattle.rx_rounds.proofs.Keeping.{ended_rounds}
use Rattle.rx_rounds.proofs.One.OneCall.{Ends}
use Rattle.rx_rounds.proofs.One.OneFields.{FitsEnds}
use Rattle.rx_rounds.proofs.Refusals.RefuseCode.{over_at}
use Rattle.rx_rounds.proofs.Refusals.RefuseRound.{refused_comes}
use Rattle.rx_rounds.proofs.Replies.ReplyOn.{ReplyNext, comes_on, has_come}
use Rattle.rx_rounds.proofs.Replies.ReplyParts.{answering_lives}
use Rattle.rx_rounds.proofs.Replies.ReplyRound.{reply_next}
use Rattle.rx_rounds.proofs.Rounded.{Made, caller_at, rounds_more}
use Rattle.rx_rounds.proofs.Two.{AreApart, any_two}

-- a caller that has what is served has it through any rounds
pub come_stays : (x : Ends) (g : Handlers) (request : List ℕ) (call line n : ℕ) (s t : Stage)
    → HasCome x g request call line s → Made (rounds g n) s t → HasCome x g request call line t
come_stays x g request call line n s t h made =
    let e = ended_with (served_for g request) h.with in
    record {
      caller = h.caller;
      ended = ended_rounds call line h.caller e.0 e.1 g n s t h.ended made;
      with = h.with;
    }
  where
    ended_with : (v : Served) → EndsWith x v h.caller → (end : End) × (h.caller.end ≡ Some end)
    ended_with (refusal code) is = (ends.Abort code, is)
    ended_with (bytes reply) is = (ends.Ok, is.0)

-- a call whose reply comes lives at its client
pub replying_lives : (x : Ends) (g : Handlers) (request reply : List ℕ) (call line now a n q : ℕ) (s : Stage)
    → Replying x g request reply call line now a n q s → any_lives s.nodes s.history ≡ true
replying_lives x g request reply call line now a n q s r =
    any_two x (server_at x r.given_server r.used_server now r.life r.ks)
    (client_at x r.given_client r.used_client r.firsts now r.kc)
    (caller_at call line (caller_with x [] true r.kc.received.read r.phase) ∷ []) r.jobs s r.two
    ∙ rw (answering_lives x g request r.ks.sent.said r.ks.sent.shut r.rest r.life r.jobs r.job).1 refl

pub refusing_lives : (x : Ends) (g : Handlers) (request : List ℕ) (call line now : ℕ) (code : ℤ) (s : Stage)
    → Refusing x g request call line now code s → any_lives s.nodes s.history ≡ true
refusing_lives x g request call line now code s r =
    any_two x (over_at x code (Some code) r.given_server r.used_server now r.ks)
    (client_at x r.given_client r.used_client [] now r.kc)
    (caller_at call line (caller_with x r.offering r.shut [] r.phase) ∷ []) [] s r.two

module _ (x : Ends) (g : Handlers) (fits : FitsEnds x) (apart : AreApart x) (request : List ℕ) (call line : ℕ)
    (few : total request < 2 ^ 32 - 1) where
  -- each round of a reply is worth one: four a piece are enough
  pub replying_ends : (left now a n q : ℕ) (reply : List ℕ) (s t : Stage) → now + 2000 * left < 2 ^ 62
      → 4 * total reply + q ≤ left + 2 * (a + n)
      → Replying x g request reply call line now a n q s → Made (rounds g left) s t → HasCome x g request call line t
  replying_ends zero now a n q reply s t early enough r made =
      absurd (let short : n < total reply = r.reads.short in let known : a ≤ n = r.down.known in omega arith)
  replying_ends (suc left) now a n q reply s t early enough r made =
      let m = rounds_more g left s t made.0 (replying_lives x g request reply call line now a n q s r) made.1 in
      by m.behind m.others
      (λ now2 a2 n2 q2 soon more r2. replying_ends left now2 a2 n2 q2 reply m.behind t soon more r2 m.others)
      (reply_next x g fits apart request reply call line few now a n q s m.behind r m.first (omega arith))
    where
      by : (u : Stage) → Made (rounds g left) u t
          → ((now2 a2 n2 q2 : ℕ) → now2 + 2000 * left < 2 ^ 62 → 4 * total reply + q2 ≤ left + 2 * (a2 + n2)
          → Replying x g request reply call line now2 a2 n2 q2 u → HasCome x g request call line t)
          → ReplyNext x g request reply call line now a n q u
          → HasCome x g request call line t
      by u others again (comes_on now2 a2 n2 q2 from far further r2) =
          again now2 a2 n2 q2 (omega arith) (omega arith) r2
      by u others again (has_come come) = come_stays x g request call line left u t come others

  -- one round is enough for a code
  pub refusing_ends : (left now : ℕ) (code : ℤ) (s t : Stage) → 1 ≤ left
      → Refusing x g request call line now code s → Made (rounds g left) s t → HasCome x g request call line t
  refusing_ends zero now code s t some r made = absurd (omega arith)
  refusing_ends (suc left) now code s t some r made =
      let m = rounds_more g left s t made.0 (refusing_lives x g request call line now code s r) made.1 in
      come_stays x g request call line left m.behind t
      (refused_comes x g request call line now code s m.behind fits apart few r m.first) m.others
