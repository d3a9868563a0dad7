-- The second round of an invoke where there is a key: its first pieces come to a server that doesn't know its client
-- yet.
use Rattle.std.proofs.Common.{◌≡◌, ◌<◌, ◌≤◌, ◌⊎◌, inl, inr, ⊎_elim, ◌+◌, ◌*◌, ◌==◌, ◌++◌, ℕ, Bool, true}
use Rattle.std.proofs.Common.{false, List, [], ◌∷◌, refl, ap, sym, subst, ◌∙◌, Option, None, is_some, length}
use Rattle.std.proofs.Common.{arith}
use Rattle.std.proofs.lemmas.Bool.{ne_eqb}
use Rattle.rx_rules.specs.CallItems.{can_give}
use Rattle.rx_rules.specs.CallLooks.{CallLooks}
use Rattle.rx_rules.specs.Life as lives
use Rattle.rx_rules.specs.Looks.{Looks}
use Rattle.rx_rules.specs.Owing.{Owed}
use Rattle.rx_rules.specs.Received.{nothing_received}
use Rattle.rx_asks.specs.declared.ask.Phase.TheVariants as phases
use Rattle.rx_jobs.specs.Handlers.{Handlers}
use Rattle.rx_plan.specs.Stages.{InvokedState, Stage}
use Rattle.rx_rounds.proofs.Between.{caller_with}
use Rattle.rx_rounds.proofs.Arriving.FirstCame.{FirstCame, first_comes}
use Rattle.rx_rounds.proofs.Flow.{total}
use Rattle.rx_rounds.proofs.Keys.KeySteps.{IsAnswer}
use Rattle.rx_rounds.proofs.Keys.KeySteps.{unproved_none}
use Rattle.rx_rounds.proofs.One.OneCall.{Ends, answering_link}
use Rattle.rx_rounds.proofs.One.OneCall.{node_of, served_link, the_call}
use Rattle.rx_rounds.proofs.One.OneFields.{FitsEnds, fresh}
use Rattle.rx_rounds.proofs.One.OneWay.{IsPlainOwed, Sends}
use Rattle.rx_rounds.proofs.RoundParts.{idle_dispatch}
use Rattle.rx_rounds.proofs.Rounded.{RoundMade, caller_at, settles_not}
use Rattle.rx_rounds.proofs.Serving.SaysOn.{says_still}
use Rattle.rx_rounds.proofs.Starts.{Started}
use Rattle.rx_rounds.proofs.Takes.Taking.{came_behind}
use Rattle.rx_rounds.proofs.Two.{AreApart, Two}

-- the server, to which its client didn't show the key yet; and whether it owes a CHALLENGE
abbrev pub unproved_at : Ends → Bool → ℕ → ℕ → CallLooks → Looks
unproved_at x owing given used k = node_of x (served_link x false owing given used) (the_call x ∷ []) 0 lives.Waiting k

-- the client, with the RESPONSE that it owes
abbrev pub answering_at : Ends → Option (List ℕ) → ℕ → ℕ → CallLooks → Looks
answering_at x o given used k = node_of x (answering_link x o given used) [] 0 lives.Calling k

abbrev pub calls_with : Ends → ℕ → ℕ → List ℕ → Bool → List InvokedState
calls_with x call line offering shut = caller_at call line (caller_with x offering shut [] phases.Resting) ∷ []

-- the client's end, which gave so many pieces
pub record Gave (request : List ℕ) (last : ℕ) (kc : CallLooks) (offering : List ℕ) (shut : Bool) : Type 0 where
  pub up : Sends request 0 0 last kc
  pub quiet : kc.received ≡ nothing_received
  pub none : kc.owed_ack ≡ None
  pub heard : kc.heard ≡ 0
  pub spoke : kc.spoke ≡ 0
  pub offers : request ≡ kc.sent.said ++ offering
  pub closed : kc.sent.shut ≡ shut
  pub out : ((offering ≡ []) × (shut ≡ true))
      ⊎ ((shut ≡ false) × (0 < length offering) × (length kc.sent.said ≡ 1412 * (0 + 32)))

-- ---- behind the round

pub record Challenged (x : Ends) (request : List ℕ) (call line : ℕ) (t : Stage) : Type 0 where
  pub last : ℕ
  pub some : 1 ≤ last
  pub near : last ≤ 32
  pub within : last ≤ total request
  pub kc : CallLooks
  pub offering : List ℕ
  pub shut : Bool
  pub has : Gave request last kc offering shut
  pub over : can_give kc.cwnd kc.sent ≡ false
  pub owed : Owed
  pub plain : IsPlainOwed owed
  pub soon : owed.rank ≤ 100
  pub given : ℕ
  pub used : ℕ
  pub used_server : ℕ
  pub two : Two x (unproved_at x true 0 used_server (came_behind false 0 request [] last owed fresh))
      (answering_at x None given used kc) (calls_with x call line offering shut) [] t

module _ (x : Ends) (g : Handlers) (answer : List ℕ) (a : IsAnswer x answer) (request : List ℕ) (call line : ℕ) where
  -- the turns of a round in which something was given: no handler has the call, and the caller says nothing more
  pub rests : (owing : Bool) (gs us : ℕ) (ks : CallLooks) (o : Option (List ℕ)) (gc uc last : ℕ) (kc : CallLooks)
      (offering : List ℕ) (shut : Bool) (s t : Stage) (m : RoundMade g s t) → ks.heard ≡ 0
      → Gave request last kc offering shut
      → (length m.polled.given == 0) ≡ false
      → Two x (unproved_at x owing gs us ks) (answering_at x o gc uc kc) (calls_with x call line offering shut) []
      m.delivered
      → Two x (unproved_at x owing gs us ks) (answering_at x o gc uc kc) (calls_with x call line offering shut) [] t
  rests owing gs us ks o gc uc last kc offering shut s t m heard h loud two =
      let ls : Looks = unproved_at x owing gs us ks in
      let lc : Looks = answering_at x o gc uc kc in
      let two1 = idle_dispatch x g ls lc (calls_with x call line offering shut) m.delivered m.served two
      (unproved_none x [] us gs ks heard owing a.challenges) m.serves_are in
      let two2 = says_still x request call line o shut 0 gc uc 0 0 last ls [] kc offering phases.Resting m.served
      m.called
      h.up h.quiet h.closed (omega arith) h.out two1 m.calls_are in
      subst (λ (u : Stage). Two x ls lc (calls_with x call line offering shut) [] u)
      (sym (settles_not m.called t (length m.polled.given == 0) loud m.settles_are)) two2

  module _ (fits : FitsEnds x) (apart : AreApart x) (keyed : is_some x.key ≡ true) (small : total request ≤ 1000000)
    where
      pub challenges : (some : 0 < length request) (s t : Stage) (first : Started x g request call line some s)
          (m : RoundMade g s t) → Challenged x request call line t
      challenges some s t first m =
          of (first_comes x g fits apart request call line small first.used s t first.said first.can m)
        where
          of : FirstCame x g fits apart request call line small first.used s t first.said first.can m
              → Challenged x request call line t
          of f =
              record {
                last = f.last;
                some = f.some;
                near = f.near;
                within = f.within;
                kc = f.kc2;
                offering = first.said.offering;
                shut = first.said.shut;
                has = has;
                over = f.over;
                owed = f.owed;
                plain = f.plain;
                soon = f.soon;
                given = f.gc;
                used = f.uc;
                used_server = f.us;
                two = rests true 0 f.us (came_behind false 0 request [] f.last f.owed fresh) None f.gc f.uc f.last f.kc2
                    first.said.offering first.said.shut s t m refl has
                    (ne_eqb (length m.polled.given) 0 (λ (z : length m.polled.given ≡ 0).
                    (let loud : 1 ≤ length m.polled.given = f.loud in omega arith)))
                    (subst (λ (b : Bool). Two x
                    (unproved_at x b 0 f.us (came_behind false 0 request [] f.last f.owed fresh))
                    (answering_at x None f.gc f.uc f.kc2) (calls_with x call line first.said.offering first.said.shut)
                    []
                    m.delivered) keyed
                    f.two);
              }
            where
              has : Gave request f.last f.kc2 first.said.offering first.said.shut
              has =
                  record {
                    up = f.up;
                    quiet = f.quiet;
                    none = f.none;
                    heard = f.heard;
                    spoke = f.spoke;
                    offers = first.said.offers ∙ ap (λ (ys : List ℕ). ys ++ first.said.offering) (sym f.said);
                    closed = f.shut;
                    out = ⊎_elim (λ (w : (first.said.offering ≡ []) × (first.said.shut ≡ true)). inl w)
                        (λ (w : (first.said.shut ≡ false) × (0 < length first.said.offering)
                        × (length first.said.more ≡ 1412 * (0 + 32))).
                        inr (w.0, w.1, ap (λ (ys : List ℕ). length ys) f.said ∙ w.2)) first.said.out;
                  }
