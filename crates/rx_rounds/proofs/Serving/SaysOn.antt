-- The client's end behind its caller's turn: it said as much as there was room for, or all.
use Rattle.std.proofs.Common.{◌≡◌, ◌<◌, ◌≤◌, ◌⊎◌, inl, inr, ◌+◌, ◌-◌, ◌*◌, ◌++◌, ℕ, Bool, true, false, List, [], ◌∷◌}
use Rattle.std.proofs.Common.{refl, ap, sym}
use Rattle.std.proofs.Common.{subst, ◌∙◌, Option, None, length, arith, append_assoc, append-nil}
use Rattle.std.proofs.lemmas.List.{length-append}
use Rattle.std.specs.Prelude.{IfSome}
use Rattle.rx_rules.specs.CallLooks.{CallLooks, after_write}
use Rattle.rx_rules.specs.Looks.{Looks}
use Rattle.rx_rules.specs.Received.{nothing_received}
use Rattle.rx_rules.specs.Sent.{counting_by, nothing_sent, pieces_by}
use Rattle.rx_asks.specs.declared.ask.Phase.{Phase}
use Rattle.rx_asks.specs.declared.ask.Phase.TheVariants as phases
use Rattle.rx_asks.specs.View.{CallerState}
use Rattle.rx_jobs.specs.Handlers.{Handlers}
use Rattle.rx_jobs.specs.Jobs.{JobState, begun}
use Rattle.rx_jobs.specs.Keeping.{kept_of}
use Rattle.rx_plan.specs.Stages.{InvokedState, Stage}
use Rattle.rx_plan.specs.Turned.{turns_all}
use Rattle.rx_rules.specs.Life as lives
use Rattle.rx_rounds.proofs.Between.{Arriving, OnTime, at_work, caller_with, client_at, server_at}
use Rattle.rx_rounds.proofs.CallsOut.{CanSay, Said, fills_up, says_all, says_turn, waits_turn}
use Rattle.rx_rounds.proofs.One.OneCall.{Ends, answering_link, node_of, the_call}
use Rattle.rx_rounds.proofs.One.OneWay.{IsSteady, Reads, Sends}
use Rattle.rx_rounds.proofs.RoundParts.{two_callers}
use Rattle.rx_rounds.proofs.Rounded.{Made, caller_at}
use Rattle.rx_rounds.proofs.Serving.SaidMore.{said_more, sends_said}
use Rattle.rx_rounds.proofs.Two.{Two}

module _ (x : Ends) (request : List ℕ) (call line : ℕ) where
  pub record SaidOn (now given used since a n : ℕ) (ls : Looks) (js : List JobState) (kc : CallLooks) (t : Stage)
      : Type 0 where
    pub more : List ℕ
    pub offering : List ℕ
    pub shut : Bool
    pub up : Sends request since a n (said_more more shut kc)
    pub offers : request ≡ (kc.sent.said ++ more) ++ offering
    pub out : ((offering ≡ []) × (shut ≡ true))
        ⊎ ((shut ≡ false) × (0 < length offering) × (length (kc.sent.said ++ more) ≡ 1412 * (a + 32)))
    pub two : Two x ls (client_at x given used [] now (said_more more shut kc))
        (caller_at call line (caller_with x offering shut [] phases.Resting) ∷ []) js t

  can_say : (since a n : ℕ) (kc : CallLooks) → Sends request since a n kc → kc.received ≡ nothing_received
      → kc.sent.shut ≡ false → a ≤ 1000000000 → CanSay a kc
  can_say since a n kc h quiet going small =
      let counts : n ≤ counting_by (length kc.sent.said) false =
      subst (λ (b : Bool). n ≤ counting_by (length kc.sent.said) b) going h.counted in
      let few : pieces_by (length kc.sent.said) false - kc.sent.acked ≤ 32 =
      subst (λ (b : Bool). pieces_by (length kc.sent.said) b - kc.sent.acked ≤ 32) going h.held in
      let known : a ≤ n = h.known in
      record {
        quiet = quiet;
        acked = h.acked;
        going = going;
        known = omega arith;
        near = omega (arith, h.acked);
        small = small;
      }

  pub says_on : (shut : Bool) (now given used since a n : ℕ) (ls : Looks) (js : List JobState) (kc : CallLooks)
      (offering : List ℕ) (phase : Phase) (s t : Stage) → Sends request since a n kc → kc.received ≡ nothing_received
      → request ≡ kc.sent.said ++ offering → kc.sent.shut ≡ shut → (shut ≡ true → offering ≡ []) → a ≤ 1000000000
      → Two x ls (client_at x given used [] now kc) (caller_at call line (caller_with x offering shut [] phase) ∷ []) js
      s
      → Made turns_all s t → SaidOn now given used since a n ls js kc t
  says_on true now given used since a n ls js kc offering phase s t h quiet offers closed done small two made =
      let none : offering ≡ [] = done refl in
      let two1 : Two x ls (client_at x given used [] now kc) (caller_at call line (caller_with x [] true [] phase) ∷ [])
      js
      s = subst (λ (ys : List ℕ). Two x ls (client_at x given used [] now kc)
      (caller_at call line (caller_with x ys true [] phase) ∷ []) js s) none two in
      let two2 = waits_turn x None ls js now given used call line kc phase s t quiet two1 made in
      let same : kc ≡ said_more [] true kc =
      ap (λ (b : Bool). record kc { sent = record kc.sent { said = kc.sent.said; shut = b } }) closed
      ∙ ap (λ (ys : List ℕ). record kc { sent = record kc.sent { said = ys; shut = true } })
      (sym (append-nil kc.sent.said)) in
      record {
        more = [];
        offering = [];
        shut = true;
        up = subst (λ (k : CallLooks). Sends request since a n k) same h;
        offers = offers ∙ ap (λ (ys : List ℕ). kc.sent.said ++ ys) none
            ∙ ap (λ (ys : List ℕ). ys ++ []) (sym (append-nil kc.sent.said));
        out = inl (refl, refl);
        two = subst (λ (k : CallLooks). Two x ls (client_at x given used [] now k)
            (caller_at call line (caller_with x [] true [] phases.Resting) ∷ []) js t) same two2;
      }
  says_on false now given used since a n ls js kc offering phase s t h quiet offers closed done small two made =
      let r = says_turn x None ls js now given used call line a kc offering phase s t
      (can_say since a n kc h quiet closed small) two made in
      by r.0 r.1 r.2 r.3
    where
      cs : List InvokedState
      cs = caller_at call line (caller_with x offering false [] phase) ∷ []

      by : (w : CallerState) (u : Stage) → Said x None ls cs js now given used a kc offering w u
          → t ≡ record u { callers = caller_at call line w ∷ [] } → SaidOn now given used since a n ls js kc t
      by w u (fills_up more left split some full two1 same) then_ =
          let is : after_write more kc ≡ said_more more false kc =
          ap (λ (b : Bool). record kc { sent = record kc.sent { said = kc.sent.said ++ more; shut = b } }) closed in
          let whole : request ≡ (kc.sent.said ++ more) ++ left =
          offers ∙ ap (λ (ys : List ℕ). kc.sent.said ++ ys) split ∙ sym (append_assoc kc.sent.said more left) in
          record {
            more = more;
            offering = left;
            shut = false;
            up = sends_said request since a n kc h closed more left false whole (λ yes. absurd cc)
                (omega (arith, full));
            offers = whole;
            out = inr (refl, some, full);
            two = two_callers x ls (client_at x given used [] now (said_more more false kc)) cs
                (caller_at call line (caller_with x left false [] phases.Resting) ∷ []) js u t
                (then_ ∙ ap (λ (v : CallerState). record u { callers = caller_at call line v ∷ [] }) same)
                (subst (λ (k : CallLooks). Two x ls (client_at x given used [] now k) cs js u) is two1);
          }
      by w u (says_all within two1 same) then_ =
          let whole : request ≡ (kc.sent.said ++ offering) ++ [] = offers
          ∙ sym (append-nil (kc.sent.said ++ offering)) in
          record {
            more = offering;
            offering = [];
            shut = true;
            up = sends_said request since a n kc h closed offering [] true whole (λ yes. refl) within;
            offers = whole;
            out = inl (refl, refl);
            two = two_callers x ls (client_at x given used [] now (said_more offering true kc)) cs
                (caller_at call line (caller_with x [] true [] phases.Resting) ∷ []) js u t
                (then_ ∙ ap (λ (v : CallerState). record u { callers = caller_at call line v ∷ [] }) same) two1;
          }

  -- where it said all, or there is no more room, it says nothing more, whether it owes a RESPONSE or doesn't
  pub says_still : (answer : Option (List ℕ)) (shut : Bool) (now given used since a n : ℕ) (ls : Looks)
      (js : List JobState)
      (kc : CallLooks) (offering : List ℕ) (phase : Phase) (s t : Stage) → Sends request since a n kc
      → kc.received ≡ nothing_received → kc.sent.shut ≡ shut → a ≤ 1000000000
      → ((offering ≡ []) × (shut ≡ true))
      ⊎ ((shut ≡ false) × (0 < length offering) × (length kc.sent.said ≡ 1412 * (a + 32)))
      → Two x ls (node_of x (answering_link x answer given used) [] now lives.Calling kc)
      (caller_at call line (caller_with x offering shut [] phase) ∷ []) js s
      → Made turns_all s t
      → Two x ls (node_of x (answering_link x answer given used) [] now lives.Calling kc)
      (caller_at call line (caller_with x offering shut [] phases.Resting) ∷ []) js t
  says_still answer shut now given used since a n ls js kc offering phase s t h quiet closed small (inl done) two made =
      subst (λ (ys : List ℕ). Two x ls (calling kc) (caller_at call line (caller_with x ys shut [] phases.Resting) ∷ [])
      js t)
      (sym done.0)
      (subst (λ (b : Bool). Two x ls (calling kc) (caller_at call line (caller_with x [] b [] phases.Resting) ∷ []) js
      t)
      (sym done.1)
      (waits_turn x answer ls js now given used call line kc phase s t quiet
      (subst (λ (b : Bool). Two x ls (calling kc) (caller_at call line (caller_with x [] b [] phase) ∷ []) js s) done.1
      (subst (λ (ys : List ℕ). Two x ls (calling kc) (caller_at call line (caller_with x ys shut [] phase) ∷ []) js s)
      done.0
      two)) made))
    where
      calling : CallLooks → Looks
      calling k = node_of x (answering_link x answer given used) [] now lives.Calling k
  says_still answer shut now given used since a n ls js kc offering phase s t h quiet closed small (inr more) two made =
      let r = says_turn x answer ls js now given used call line a kc offering phase s t
      (can_say since a n kc h quiet (closed ∙ more.0) small)
      (subst (λ (b : Bool). Two x ls (calling kc) (caller_at call line (caller_with x offering b [] phase) ∷ []) js s)
      more.0
      two) made in
      subst (λ (b : Bool). Two x ls (calling kc) (caller_at call line (caller_with x offering b [] phases.Resting) ∷ [])
      js t)
      (sym more.0) (by r.0 r.1 r.2 r.3)
    where
      calling : CallLooks → Looks
      calling k = node_of x (answering_link x answer given used) [] now lives.Calling k

      cs : List InvokedState
      cs = caller_at call line (caller_with x offering false [] phase) ∷ []

      nothing : (ys : List ℕ) → length ys ≡ 0 → ys ≡ []
      nothing [] none = refl
      nothing (y ∷ ys) none = absurd (omega arith)

      by : (w : CallerState) (u : Stage) → Said x answer ls cs js now given used a kc offering w u
          → t ≡ record u { callers = caller_at call line w ∷ [] }
          → Two x ls (calling kc) (caller_at call line (caller_with x offering false [] phases.Resting) ∷ []) js t
      by w u (fills_up said left split some full two1 same) then_ =
          let long : length (kc.sent.said ++ said) ≡ length kc.sent.said + length said = length-append kc.sent.said
          said in
          let none : said ≡ [] = nothing said (omega (arith, more.2)) in
          let kept : after_write said kc ≡ kc =
          ap (λ (ys : List ℕ). after_write ys kc) none
          ∙ ap (λ (ys : List ℕ). record kc { sent = record kc.sent { said = ys } }) (append-nil kc.sent.said) in
          let rest : offering ≡ left = split ∙ ap (λ (ys : List ℕ). ys ++ left) none in
          two_callers x ls (calling kc) cs (caller_at call line (caller_with x offering false [] phases.Resting) ∷ [])
          js u t
          (then_ ∙ ap (λ (v : CallerState). record u { callers = caller_at call line v ∷ [] })
          (same ∙ ap (λ (ys : List ℕ). caller_with x ys false [] phases.Resting) (sym rest)))
          (subst (λ (k : CallLooks). Two x ls (calling k) cs js u) kept two1)
      by w u (says_all within two1 same) then_ =
          absurd (let long : length (kc.sent.said ++ offering) ≡ length kc.sent.said + length offering =
          length-append kc.sent.said offering in omega (arith, more.1, more.2))

  -- the stage behind it
  pub arriving_at : (g : Handlers) (now since a n given used gs us : ℕ) (kc ks : CallLooks) (offering : List ℕ)
      (shut : Bool) (phase : Phase) (s t : Stage)
      → 1 ≤ n → Sends request since a n kc → kc.received ≡ nothing_received → kc.owed_ack ≡ None
      → request ≡ kc.sent.said ++ offering → kc.sent.shut ≡ shut → (shut ≡ true → offering ≡ [])
      → Reads request n ks → ks.sent ≡ nothing_sent → IsSteady ks → OnTime 3000 since now a n kc ks ks
      → (a < n → since ≤ kc.spoke) → kc.spoke ≤ now → IfSome ks.owed_ack (λ o. o.rank ≤ now + 100) → a ≤ 1000000000
      → Two x (server_at x gs us now lives.Accepted ks) (client_at x given used [] now kc)
      (caller_at call line (caller_with x offering shut [] phase) ∷ [])
      (record (begun (the_call x)) { request = kept_of g ks.received.read } ∷ []) s
      → Made turns_all s t → Arriving x g request call line now a n 1 t
  arriving_at g now since a n given used gs us kc ks offering shut phase s t known h quiet none offers closed done reads
      new fresh time gave spoken late small two made =
      let ls : Looks = server_at x gs us now lives.Accepted ks in
      let js : List JobState = record (begun (the_call x)) { request = kept_of g ks.received.read } ∷ [] in
      let o = says_on shut now given used since a n ls js kc offering phase s t h quiet offers closed done small two
      made in
      record {
        kc = said_more o.more o.shut kc;
        ks = ks;
        given = given;
        used = used;
        server = ls;
        jobs = js;
        offering = o.offering;
        shut = o.shut;
        phase = phases.Resting;
        two = o.two;
        serving = at_work gs us known;
        since = since;
        up = o.up;
        offers = o.offers;
        closed = refl;
        out = o.out;
        quiet = quiet;
        owes_none = none;
        reads = reads;
        says_none = new;
        fresh = fresh;
        time = record {
          touch = record { client = time.touch.client; server = time.touch.server; spoke = time.touch.spoke };
          past = time.past;
          soon = time.soon;
          rests = time.rests;
          owes = time.owes;
          came = time.came;
        };
        gave = gave;
        spoken = spoken;
        late = late;
        due = λ is. absurd (omega arith);
        ready = omega arith;
      }
