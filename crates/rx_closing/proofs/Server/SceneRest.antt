-- Where a call rests behind a turn of its server's dispatcher: all that was said stands there, and all that was said in
-- turn is acknowledged. Then no handler has the call, and it doesn't wait for one.
use Rattle.std.proofs.Common.{◌≡◌, ◌<◌, ◌≤◌, ◌++◌, ℕ, suc, Bool, true, false, List, length, refl, ap, sym, subst, ◌∙◌}
use Rattle.std.proofs.Common.{Option, Some, None, arith, inl, inr, is_some}
use Rattle.std.specs.Prelude.{slice_get}
use Rattle.std.proofs.lemmas.List.{length-append}
use Rattle.rx_model.specs.declared.names.CallName.{CallName}
use Rattle.rx_model.specs.Names.{connection_of}
use Rattle.rx_asks.specs.declared.ask.TheConstants.{REPLY_BYTES}
use Rattle.rx_rules.specs.After.{looks}
use Rattle.rx_rules.specs.Life.{is_active, is_handled, is_live, is_waiting}
use Rattle.rx_rules.specs.Life as lives
use Rattle.rx_rules.specs.Looks.{CallRecord, call_at, is_call}
use Rattle.rx_rules.specs.Received.{Packet, front_of, is_complete, packet_at, used_of}
use Rattle.rx_rules.specs.Sent.{counting_of, opened, pieces_by, pieces_of}
use Rattle.rx_rules.specs.Setup.{IsServer}
use Rattle.rx_rules.proofs.PacketLaws.{front_all}
use Rattle.rx_history.proofs.LifeFalls.{is_begun}
use Rattle.rx_history.specs.Sides.{Node, side}
use Rattle.rx_law.specs.Promises.{ends_in}
use Rattle.rx_law.proofs.Fronts.{ArePieces}
use Rattle.rx_law.proofs.Joint.{Between, Fed, between, of_call}
use Rattle.rx_law.proofs.World.{if-some}
use Rattle.rx_history.proofs.Ends.{ends_of}
use Rattle.rx_between.specs.Acknowledged.{received_by, sent_by}
use Rattle.rx_script.specs.declared.plan.Numbered.{Numbered}
use Rattle.rx_jobs.specs.Handlers.{Handlers, wait_of}
use Rattle.rx_plan.specs.Answering.{AreServable, request_for}
use Rattle.rx_plan.specs.Stages.{Stage}
use Rattle.rx_plan.specs.Turned.{dispatches}
use Rattle.rx_plan.proofs.Driven.{seen}
use Rattle.rx_plan.proofs.Followed.{IsFollowed}
use Rattle.rx_between.proofs.Each.EachItem.{In}
use Rattle.rx_rounds.proofs.Rounded.{Made}
use Rattle.rx_rounds.proofs.Sizes.{reply_short}
use Rattle.rx_closing.specs.Living.{looks_of}
use Rattle.rx_closing.proofs.Ends.LastOnly.{one_last}
use Rattle.rx_closing.proofs.Ends.RoomLaws.{none_above}
use Rattle.rx_closing.proofs.Far.FarServed.{BeginsServed}
use Rattle.rx_closing.proofs.Far.FarStands.{scene_fed}
use Rattle.rx_closing.proofs.Far.FarWork.{IsCaused, scene_begins}
use Rattle.rx_closing.proofs.Frame.{AreAmong, Crowd, IsSpacious, OneOf, asked_in, served_in}
use Rattle.rx_closing.proofs.Room.RoomCounts.{room_counts_among}
use Rattle.rx_closing.proofs.Server.Accepts.{IsOpenAt}
use Rattle.rx_closing.proofs.Server.FirstsHold.{has_first}
use Rattle.rx_closing.proofs.Server.OwnSeen.{Keeps, lives_here}
use Rattle.rx_closing.proofs.Server.ServerScene.{scene_moves, scene_open, scene_serves, scene_setup, scene_sound}
use Rattle.rx_closing.proofs.Server.ServerScene.{scene_unshut}
use Rattle.rx_closing.proofs.Server.ServerTurn.{IsSound, WasFull}
use Rattle.rx_closing.proofs.Server.ServerWay.{ServerMoves, server_full, server_goes_on, server_idle, server_reads}
use Rattle.rx_closing.proofs.Server.ServerWay.{server_way}
use Rattle.rx_closing.proofs.Server.TurnDrained.{all_complete}

-- ---- streams that stand whole

module _ (c : CallName) (k : ℕ) (client server : Node) (t : Stage) (scene : OneOf c k client server t) where
  fed : Fed (ends_in (connection_of c) (suc k) client server) t.history
  fed = scene_fed c k client server t scene

  both : Between (of_call client.setup (side (suc k) t.history) c) (of_call server.setup (side 0 t.history) c)
  both = between (ends_in (connection_of c) (suc k) client server) t.history c fed refl

  complete_by : (said : List ℕ) (shut : Bool) (ps : List Packet) → ArePieces said shut ps → shut ≡ true
      → ArePieces said true ps
  complete_by said shut ps are closed = subst (λ (b : Bool). ArePieces said b ps) closed are

  -- the whole request stands at the server without a gap
  pub request_complete : (a f : CallRecord) → asked_in c k client t ≡ Some a → served_in c server t ≡ Some f
      → a.looks.sent.shut ≡ true → pieces_of a.looks.sent ≤ front_of f.looks.received.kept
      → is_complete f.looks.received ≡ true
  request_complete a f asked served shut all =
      let are : ArePieces (ends_of (Some a)).said (ends_of (Some a)).shut (ends_of (Some f)).kept =
      subst (λ (o : Option CallRecord). ArePieces (ends_of (Some a)).said (ends_of (Some a)).shut
      (ends_of o).kept) served
      (subst (λ (o : Option CallRecord). ArePieces (ends_of o).said (ends_of o).shut
      (ends_of (served_in c server t)).kept) asked both.request.pieces) in
      all_complete a.looks.sent.said f.looks.received.kept
      (complete_by a.looks.sent.said a.looks.sent.shut f.looks.received.kept are shut)
      (one_last server.setup (side 0 t.history) c f fed.server_fits fed.server_legal served)
      (subst (λ (b : Bool). pieces_by (length a.looks.sent.said) b ≤ front_of f.looks.received.kept) shut all)

-- ---- a server's call at rest

module _ (g : Handlers) (ls : List Numbered) (c : CallName) (k : ℕ) (client server : Node) (t : Stage)
    (scene : OneOf c k client server t) (follows : IsFollowed g ls (seen t)) (i : IsCaused g ls c k client t) where
  -- what it said are fewer pieces than there are seqs
  pub said_few : (f : CallRecord) → served_in c server t ≡ Some f → opened (length f.looks.sent.said) < 4294967294
  said_few f there =
      of (subst (λ (o : Option CallRecord). BeginsServed g (request_for g i.caller.origin.invoke) (sent_by o).said)
      there
      (scene_begins g ls c k client server t scene follows i))
    where
      few : (n : ℕ) → n ≤ 16842756 → opened n < 4294967294
      few n low = omega arith

      of : BeginsServed g (request_for g i.caller.origin.invoke) f.looks.sent.said
          → opened (length f.looks.sent.said) < 4294967294
      of (inl none) = subst (λ (xs : List ℕ). opened (length xs) < 4294967294) (sym none) (few 0 (omega arith))
      of (inr (rest, is)) =
          let short : length (f.looks.sent.said ++ rest) ≤ REPLY_BYTES =
          reply_short g (request_for g i.caller.origin.invoke) (f.looks.sent.said ++ rest) is in
          few (length f.looks.sent.said) (omega (arith, short, length-append f.looks.sent.said rest))

  -- ---- behind a turn that brought it no further

  -- what stands at the server: the whole request, and an acknowledgement of all that counts of what it said
  pub record IsAtRest (a : CallRecord) : Type 0 where
    pub asked : asked_in c k client t ≡ Some a
    pub shut : a.looks.sent.shut ≡ true
    pub whole : pieces_of a.looks.sent ≤ front_of (received_by (served_in c server t)).kept
    pub within :
        (j : ℕ) → is_some (packet_at (received_by (served_in c server t)).kept j) ≡ true
        → j ≤ used_of (received_by (served_in c server t))
    pub known : counting_of (sent_by (served_in c server t)) ≤ (sent_by (served_in c server t)).acked

  -- a call that is there, that no handler has, and that waits for none
  pub record IsPast : Type 0 where
    pub call : CallRecord
    pub there : served_in c server t ≡ Some call
    pub unhandled : is_handled call.life ≡ false
    pub served_ : is_waiting call.life ≡ false

  some_front : (a : CallRecord) → IsAtRest a → 1 ≤ front_of (received_by (served_in c server t)).kept
  some_front a r =
      let some : 1 ≤ pieces_by (length a.looks.sent.said) true = least (length a.looks.sent.said) in
      let same : pieces_of a.looks.sent ≡ pieces_by (length a.looks.sent.said) true =
      ap (pieces_by (length a.looks.sent.said)) r.shut in
      omega (arith, some, same, r.whole)
    where
      least : (n : ℕ) → 1 ≤ pieces_by n true
      least n = omega arith

  module _ (s : Stage) (before : OneOf c k client server s) (followed : IsFollowed g ls (seen s))
      (servable : AreServable g) (caused : IsCaused g ls c k client s) (made : Made (dispatches g) s t)
      (cs : List CallName) (crowd : Crowd cs s) where
    abbrev most : ℕ
    most = wait_of g (request_for g caused.caller.origin.invoke)

    abbrev serves : IsServer server.setup.kind
    serves = scene_serves g ls c k client server s before followed

    -- no others live there at any moment of the turn
    among_at : (u : Stage) → Keeps server s u → AreAmong cs (looks server.setup (side 0 u.history))
    among_at u keeps d r there live =
        let lived : lives_here (looks_of s 0 server) d ≡ true =
        keeps.lives d (ap (λ (o : Option CallRecord). is_call (λ x. is_live x.life) o) there ∙ live) in
        by (call_at (looks_of s 0 server) d) refl lived
      where
        among : AreAmong cs (looks_of s 0 server)
        among =
            if-some (slice_get s.nodes 0) server (λ n. AreAmong cs (looks_of s 0 n)) before.server_there (crowd.among 0)

        by : (o : Option CallRecord) → call_at (looks_of s 0 server) d ≡ o → is_call (λ x. is_live x.life) o ≡ true
            → In d cs
        by None is wrong = absurd cc
        by (Some x) is living = among d x is living

    -- where there was no room for more of it, a piece counts that isn't acknowledged
    pub full_counts : (f : CallRecord) → served_in c server t ≡ Some f → f.life ≡ lives.Accepted
        → WasFull g server serves c s f
        → ((j : ℕ) → is_some (packet_at f.looks.received.kept j) ≡ true → j ≤ used_of f.looks.received)
        → f.looks.sent.acked < counting_of f.looks.sent
    full_counts f there life was within =
        let open_ : IsOpenAt g server serves c s = scene_open g ls c k client server s before followed in
        let sound : IsSound g server (scene_serves g ls c k client server t scene follows) c t =
        scene_sound g ls c k client server t scene follows in
        room_counts_among server.setup (side 0 was.at.history) cs c f
        (scene_setup g ls c k client server s before followed) (was.keeps.legal open_.first open_.legal)
        (among_at was.at was.keeps)
        (if-some (slice_get s.nodes 0) server (λ n. IsSpacious cs n.setup) before.server_there (crowd.space 0))
        was.there (ap is_active life)
        (scene_unshut g ls c k client server t scene follows f there (ap is_begun life))
        (none_above (used_of f.looks.received) f.looks.received.kept within)
        (sound.known f there (ap is_begun life)) (said_few f there) was.full

    -- where its way stands, and it rests
    pub rests_past : (a : CallRecord) → IsAtRest a
        → (server_way g server (scene_serves g ls c k client server s before followed) c most t
        ≤ server_way g server (scene_serves g ls c k client server s before followed) c most s)
        → IsPast
    rests_past a r stands =
        by (scene_moves g ls c k client server s before followed servable t made caused)
      where
        by : ServerMoves g server (scene_serves g ls c k client server s before followed) c most s t → IsPast
        by (server_goes_on more) = absurd (omega (arith, more, stands))
        by (server_full o f was is took now_ turns ended full decided) =
            let acked : f.looks.sent.acked < counting_of f.looks.sent =
            full_counts f is now_ full
            (subst (λ (p : Option CallRecord). (j : ℕ) → is_some (packet_at (received_by p).kept j) ≡ true
            → j ≤ used_of (received_by p)) is r.within) in
            let known : counting_of f.looks.sent ≤ f.looks.sent.acked =
            subst (λ (p : Option CallRecord). counting_of (sent_by p) ≤ (sent_by p).acked) is r.known in
            absurd (omega (arith, acked, known))
        by (server_reads o f was is took now_ turns more all incomplete) =
            let whole : is_complete f.looks.received ≡ true =
            request_complete c k client server t scene a f r.asked is r.shut
            (subst (λ (p : Option CallRecord). pieces_of a.looks.sent ≤ front_of (received_by p).kept) is r.whole) in
            absurd (let wrong : ◌≡◌ {A = Bool} true false = sym whole ∙ incomplete in cc (wrong))
        by (server_idle same idle first) = of (served_in c server t) refl
          where
            of : (o : Option CallRecord) → served_in c server t ≡ o → IsPast
            of None is =
                absurd (let some = subst (λ (p : Option CallRecord). 1 ≤ front_of (received_by p).kept) is
                (some_front a r) in
                omega (arith, some))
            of (Some f) is =
                record {
                  call = f;
                  there = is;
                  unhandled =
                      ap (λ (o : Option CallRecord). is_call (λ x. is_handled x.life) o) (sym is ∙ same) ∙ idle;
                  served_ = waits_not (is_waiting f.life) refl;
                }
              where
                front : 1 ≤ front_of f.looks.received.kept
                front = subst (λ (p : Option CallRecord). 1 ≤ front_of (received_by p).kept) is (some_front a r)

                waits_not : (b : Bool) → is_waiting f.life ≡ b → b ≡ false
                waits_not false waits = refl
                waits_not true waits =
                    absurd (let kept : has_first (Some f)
                    ≡ true = front_all f.looks.received.kept 0 (omega (arith, front)) in
                    let none : has_first (served_in c server s) ≡ false =
                    first (ap (λ (o : Option CallRecord). is_call (λ x. is_waiting x.life) o)
                    (sym same ∙ is) ∙ waits) in
                    let wrong : ◌≡◌ {A = Bool} true false =
                    sym kept ∙ ap has_first (sym is ∙ same) ∙ none in cc (wrong))
