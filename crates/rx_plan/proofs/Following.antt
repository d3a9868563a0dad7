-- What is followed where callers and handlers alone drive calls: the server's calls are the dispatcher's, and each call
-- of a client is its caller's.
use Rattle.std.proofs.Common.{◌≡◌, ◌≢◌, ◌==◌, ◌⊎◌, inl, inr, length, ℕ, Bool, true, false, List, [], ◌∷◌}
use Rattle.std.proofs.Common.{◌++◌, set, Some, Ok, refl, ◌∙◌, ap, sym, subst}
use Rattle.std.proofs.Common.{slice_get}
use Rattle.hex.specs.Hex.{IsBytes}
use Rattle.rx_model.specs.declared.event.Event.{Event}
use Rattle.rx_model.specs.declared.event.Event.TheVariants as events
use Rattle.rx_model.specs.declared.event.Noted.{Noted}
use Rattle.rx_model.specs.declared.names.CallName.{CallName}
use Rattle.rx_model.specs.Names.{same_name}
use Rattle.rx_model.proofs.NameLaws.{name_is, name_sym, number_itself, same_number}
use Rattle.rx_rules.specs.After.{looks}
use Rattle.rx_rules.specs.Looks.{call_at}
use Rattle.rx_rules.specs.Rules.{Allowed, AllowedAt, Legal}
use Rattle.rx_rules.specs.Setup.{Setup, Kind, FitsSetup}
use Rattle.rx_history.specs.Sides.{Node, side}
use Rattle.rx_law.specs.Worlds.{AreNodes}
use Rattle.rx_history.proofs.ClientHistory.{client-calls}
use Rattle.rx_law.proofs.World.{and-some, if-some}
use Rattle.rx_asks.specs.Asks.{Asking, IsAsked, begun as caller_begun, calling, heard}
use Rattle.rx_asks.specs.History.{Drives, LeavesCall}
use Rattle.rx_asks.specs.History as driven
use Rattle.rx_asks.specs.View.{CallerState, caller_for}
use Rattle.rx_asks.specs.declared.ask.TheConstants.{REPLY_BYTES}
use Rattle.rx_asks.proofs.Asked.{asks_own}
use Rattle.rx_asks.proofs.Driving.{none_starts, tells_driven}
use Rattle.rx_jobs.specs.Dispatching.{Turning, accepts, dispatching, over}
use Rattle.rx_jobs.specs.Handlers.{Handlers}
use Rattle.rx_jobs.specs.Jobs.{Ask, IsCall, JobState}
use Rattle.rx_events.specs.Joint.{IsAllowedAt}
use Rattle.rx_plan.proofs.OldOrNew.{New, Old, OldOrNew, old_or_new}
use Rattle.rx_wire.specs.Turns.{noted}
use Rattle.rx_plan.specs.Stages.{InvokedState, Stage}
use Rattle.rx_plan.proofs.Allowed.{AreAllowed, sides_of}
use Rattle.rx_plan.proofs.Callers.{IsClientNode, asked_leaves, called_by, client_apart, heard_call, one_is}
use Rattle.rx_plan.proofs.Callers.{quiet_leaves}
use Rattle.rx_plan.proofs.Callers.{set_other, side_by, side_own}
use Rattle.rx_plan.proofs.Driven.{Carries, Seen, invoked, seen, seen_behind, set_own, with_view}
use Rattle.rx_plan.proofs.HasCaller.{EachHas, HasCaller, asked_none, each_event, get_last, has_more, has_set}
use Rattle.rx_plan.proofs.HasCaller.{none_called, quiet_none, served_none}
use Rattle.rx_plan.proofs.Handling.{IsQuiet, Serves}
use Rattle.rx_plan.proofs.Handling as handling
use Rattle.rx_plan.proofs.QuietEvents.{AreServed, LinksServed, asked_links, call_links}

-- nothing was made so far but nodes
pub record IsEmpty (s : Stage) : Type 0 where
  pub history : s.history ≡ []
  pub callers : s.callers ≡ []
  pub jobs : s.jobs ≡ []

-- requests are asked at places, each for something that is there
module _ (g : Handlers) (Origin : ℕ → Type 0) (request_of : (place : ℕ) → Origin place → List ℕ) where
  -- these bytes are asked at a place
  pub record Asks (place : ℕ) (bytes : List ℕ) : Type 0 where
    pub origin : Origin place
    pub request : bytes ≡ request_of place origin

  -- a caller is that of a place, and drives its call at its client
  pub record IsCaller (nodes : List Node) (h : List Noted) (k : InvokedState) : Type 0 where
    pub origin : Origin k.line
    pub fits : IsBytes (request_of k.line origin)
    pub node : IsClientNode nodes k.node
    pub drives : Drives REPLY_BYTES (request_of k.line origin) k.caller (side k.node h)

  -- each of the callers is one, and no two at one client have one call
  pub record AreCallers (nodes : List Node) (h : List Noted) (ks : List InvokedState) : Type 0 where
    pub each_is : (j : ℕ) (k : InvokedState) → slice_get ks j ≡ Some k → IsCaller nodes h k
    pub apart :
        (i j : ℕ) (a b : InvokedState) → i ≢ j → slice_get ks i ≡ Some a → slice_get ks j ≡ Some b → a.node ≡ b.node
        → same_name a.caller.call b.caller.call ≡ false

  -- what is followed where the nodes are as nodes of a world are: each call of each client has a caller too
  pub record IsPlayed (x : Seen) : Type 0 where
    pub serves : Serves g x.turning (side 0 x.history)
    pub callers : AreCallers x.nodes x.history x.callers
    pub each_has : EachHas x.nodes x.history x.callers

  -- at each moment
  pub record IsFollowed (x : Seen) : Type 0 where
    pub allowed : AreAllowed x.nodes x.history
    pub links : AreServed x.nodes x.history
    pub played : AreNodes x.nodes → IsPlayed x

  -- ---- events that are no caller's of these

  callers_leave : (nodes : List Node) (h : List Noted) (node : ℕ) (e : Event) (ks : List InvokedState)
      → ((j : ℕ) (k : InvokedState) → slice_get ks j ≡ Some k → node ≡ k.node → LeavesCall k.caller.call e)
      → AreCallers nodes h ks → AreCallers nodes (noted node e ∷ h) ks
  callers_leave nodes h node e ks leaves a =
      record {
        each_is = λ j k at. (
            let i = a.each_is j k at in
            record {
              origin = i.origin;
              fits = i.fits;
              node = i.node;
              drives = side_by (Drives REPLY_BYTES (request_of k.line i.origin) k.caller) k.node node e h
                  (λ same d. driven.leaves k.caller e (side k.node h) (leaves j k at same) d) i.drives;
            });
        apart = a.apart;
      }

  follow_quiet : (x : Seen) (node : ℕ) (e : Event) → IsQuiet e → LinksServed x.nodes e
      → IsAllowedAt x.nodes x.history node e → IsFollowed x → IsFollowed (seen_behind node e x)
  follow_quiet x node e quiet links allowed q =
      record {
        allowed = (allowed, q.allowed);
        links = (links, q.links);
        played = λ are. (
            let p = q.played are in
            record {
              serves = side_by (Serves g x.turning) 0 node e x.history
                  (λ same s. handling.leaves x.turning e (side 0 x.history) quiet s) p.serves;
              callers = callers_leave x.nodes x.history node e x.callers
                  (λ j k at same. quiet_leaves k.caller.call e quiet) p.callers;
              each_has = each_event x.nodes x.history x.callers x.callers node e allowed (λ j c has. has)
                  (λ c. inl (none_called c e (quiet_none e quiet))) p.each_has;
            });
      }

  -- ---- a new caller

  -- a call that is answered is none of an older caller's
  fresh_call : (nodes : List Node) (h : List Noted) (node cid : ℕ) (c : CallName) (k : InvokedState) → AreNodes nodes
      → AreAllowed nodes h → IsAllowedAt nodes h node (events.Called cid (Ok c)) → IsCaller nodes h k → k.node ≡ node
      → same_name k.caller.call c ≡ false
  fresh_call nodes h node cid c k are all allowed i same =
      let e : Event = events.Called cid (Ok c) in
      let n : IsClientNode nodes k.node = i.node in
      let s : Setup = n.client.setup in
      let fits : FitsSetup s =
      if-some (slice_get nodes k.node) n.client (λ m. FitsSetup m.setup) n.there (are.fits k.node) in
      let legal : Legal s (side k.node h) =
      if-some (slice_get nodes k.node) n.client (λ m. Legal m.setup (side k.node h)) n.there
      ((sides_of nodes h are all).legal k.node) in
      let here : Allowed s (looks s (side k.node h)) e =
      and-some (slice_get nodes k.node) n.client (λ m. Allowed m.setup (looks m.setup (side k.node h)) e) n.there
      (subst (λ (j : ℕ). IsAllowedAt nodes h j e) (sym same) allowed) in
      let tells =
      tells_driven s n.host n.epoch REPLY_BYTES (request_of k.line i.origin) k.caller (side k.node h) n.kind fits legal
      i.drives in
      let calls = client-calls s n.host n.epoch (side k.node h) n.kind fits legal in
      none_starts s (looks s (side k.node h)) k.caller.call tells.called n.host n.epoch e n.kind fits
      (subst (λ (kind : Kind). AllowedAt kind s (looks s (side k.node h)) e) n.kind here)
      (calls.sound k.caller.call) calls.standing.conns tt

  new_caller : (nodes : List Node) (h : List Noted) (call node line cid : ℕ) (c : CallName) (bytes : List ℕ)
      → Asks line bytes → IsBytes bytes → IsClientNode nodes node
      → IsCaller nodes (noted node (events.Called cid (Ok c)) ∷ h) (invoked call node line c bytes)
  new_caller nodes h call node line cid c bytes asks fits n =
      record {
        origin = asks.origin;
        fits = subst IsBytes asks.request fits;
        node = n;
        drives =
            subst (λ (past : List Event). Drives REPLY_BYTES (request_of line asks.origin) (caller_for c bytes)
            past)
            (sym (side_own node (events.Called cid (Ok c)) h))
            (subst (λ (b : List ℕ). Drives REPLY_BYTES b (caller_for c bytes)
            (events.Called cid (Ok c) ∷ side node h)) asks.request (driven.starts cid c (side node h)));
      }

  more_callers : (nodes : List Node) (h : List Noted) (call node line cid : ℕ) (c : CallName) (bytes : List ℕ)
      (ks : List InvokedState) → Asks line bytes → IsBytes bytes → IsClientNode nodes node
      → ((j : ℕ) (k : InvokedState) → slice_get ks j ≡ Some k → k.node ≡ node → same_name k.caller.call c ≡ false)
      → AreCallers nodes h ks
      → AreCallers nodes (noted node (events.Called cid (Ok c)) ∷ h) (ks ++ invoked call node line c bytes ∷ [])
  more_callers nodes h call node line cid c bytes ks asks fits n fresh a =
      record {
        each_is = λ j k at. each_of j k (old_or_new ks new k j at);
        apart = λ i j k m differ at_i at_j same.
            two_of i j k m differ same (old_or_new ks new k i at_i) (old_or_new ks new m j at_j);
      }
    where
      e : Event
      e = events.Called cid (Ok c)

      new : InvokedState
      new = invoked call node line c bytes

      each_of : (j : ℕ) (k : InvokedState) → OldOrNew ks new j k → IsCaller nodes (noted node e ∷ h) k
      each_of j k (Old at) = (callers_leave nodes h node e ks (λ i m there same. tt) a).each_is j k at
      each_of j k (New place is) =
          subst (IsCaller nodes (noted node e ∷ h)) is (new_caller nodes h call node line cid c bytes asks fits n)

      two_of : (i j : ℕ) (k m : InvokedState) → i ≢ j → k.node ≡ m.node → OldOrNew ks new i k → OldOrNew ks new j m
          → same_name k.caller.call m.caller.call ≡ false
      two_of i j k m differ same (Old at_i) (Old at_j) = a.apart i j k m differ at_i at_j same
      two_of i j k m differ same (Old at_i) (New place is) =
          subst (λ (x : InvokedState). same_name k.caller.call x.caller.call ≡ false) is
          (fresh i k at_i (same ∙ ap (λ (x : InvokedState). x.node) (sym is)))
      two_of i j k m differ same (New place is) (Old at_j) =
          name_sym k.caller.call m.caller.call
          ∙ subst (λ (x : InvokedState). same_name m.caller.call x.caller.call ≡ false) is
          (fresh j m at_j (sym same ∙ ap (λ (x : InvokedState). x.node) (sym is)))
      two_of i j k m differ same (New place is) (New place' is') = absurd (differ (place ∙ sym place'))

  follow_invoke : (x : Seen) (call node line cid : ℕ) (c : CallName) (bytes : List ℕ) → Asks line bytes
      → IsBytes bytes → IsAllowedAt x.nodes x.history node (events.Called cid (Ok c)) → IsFollowed x
      → IsFollowed (record (seen_behind node (events.Called cid (Ok c)) x) {
        callers = x.callers ++ invoked call node line c bytes ∷ [];
      })
  follow_invoke x call node line cid c bytes asks fits allowed q =
      record {
        allowed = (allowed, q.allowed);
        links = (tt, q.links);
        played = λ are. (
            let p = q.played are in
            let n = called_by x.nodes node cid c x.history allowed in
            record {
              serves = side_by (Serves g x.turning) 0 node (events.Called cid (Ok c)) x.history
                  (λ same s. absurd (client_apart x.nodes node are n same)) p.serves;
              callers = more_callers x.nodes x.history call node line cid c bytes x.callers asks fits n
                  (λ j k at same.
                  fresh_call x.nodes x.history node cid c k are q.allowed allowed (p.callers.each_is j k at) same)
                  p.callers;
              each_has = each_event x.nodes x.history x.callers (x.callers ++ new ∷ []) node
                  (events.Called cid (Ok c)) allowed (has_more x.callers new) of_its_call p.each_has;
            });
      }
    where
      new : InvokedState
      new = invoked call node line c bytes

      of_its_call : (d : CallName) → (same_name d c ≡ false) ⊎ HasCaller (x.callers ++ new ∷ []) node d
      of_its_call d = by (same_name d c) refl
        where
          by : (b : Bool) → same_name d c ≡ b → (same_name d c ≡ false) ⊎ HasCaller (x.callers ++ new ∷ []) node d
          by true same =
              inr (record {
                place = length x.callers;
                caller = new;
                there = get_last x.callers new;
                of_node = refl;
                call = sym (name_is d c same);
              })
          by false other = inl other

  -- ---- the dispatcher

  follow_begin : (x : Seen) (jobs : List JobState) → x.turning ≡ over jobs → IsFollowed x
      → IsFollowed (record x { turning = accepts jobs })
  follow_begin x jobs is q =
      record {
        allowed = q.allowed;
        links = q.links;
        played = λ are. (
            let p = q.played are in
            record {
              serves = handling.begins jobs (side 0 x.history)
                  (subst (λ (t : Turning). Serves g t (side 0 x.history)) is p.serves);
              callers = p.callers;
              each_has = p.each_has;
            });
      }

  follow_serve : (x : Seen) (a : Ask) (e : Event) → (dispatching g).asks x.turning ≡ Some a → IsCall a e
      → IsAllowedAt x.nodes x.history 0 e → IsFollowed x
      → IsFollowed (record (seen_behind 0 e x) { turning = (dispatching g).heard x.turning e })
  follow_serve x a e asked is allowed q =
      record {
        allowed = (allowed, q.allowed);
        links = (call_links x.nodes a e is, q.links);
        played = λ are. (
            let p = q.played are in
            record {
              serves = subst (Serves g ((dispatching g).heard x.turning e)) (sym (side_own 0 e x.history))
                  (handling.makes x.turning a e (side 0 x.history) asked is p.serves);
              callers = callers_leave x.nodes x.history 0 e x.callers
                  (λ j k at same.
                  absurd (client_apart x.nodes k.node are (p.callers.each_is j k at).node (sym same))) p.callers;
              each_has = each_event x.nodes x.history x.callers x.callers 0 e allowed (λ j c has. has)
                  (λ c. inl (none_called c e (served_none a e is))) p.each_has;
            });
      }

  -- ---- a caller's turn

  -- what a place had before it changed
  record Had (ks : List InvokedState) (i : ℕ) (a : InvokedState) : Type 0 where
    old : InvokedState
    at : slice_get ks i ≡ Some old
    node : old.node ≡ a.node
    call : old.caller.call ≡ a.caller.call

  had_by : (ks : List InvokedState) (place i : ℕ) (k a : InvokedState) (v : CallerState)
      → slice_get ks place ≡ Some k → v.call ≡ k.caller.call → slice_get (set ks place (with_view k v)) i ≡ Some a
      → Had ks i a
  had_by ks place i k a v at own is = by (place == i) refl
    where
      by : (b : Bool) → (place == i) ≡ b → Had ks i a
      by true same =
          (let place_is : place ≡ i = same_number place i same in
          let here : with_view k v ≡ a =
          one_is (with_view k v) a (sym (set_own ks place k (with_view k v) at)
          ∙ subst (λ (j : ℕ). slice_get (set ks place (with_view k v)) j ≡ Some a) (sym place_is) is) in
          record {
            old = k;
            at = subst (λ (j : ℕ). slice_get ks j ≡ Some k) place_is at;
            node = ap (λ (m : InvokedState). m.node) here;
            call = sym own ∙ ap (λ (m : InvokedState). m.caller.call) here;
          })
      by false differ =
          record {
            old = a;
            at = sym (set_other ks place i (with_view k v) (λ same. (
                let yes : (place == i) ≡ true = subst (λ (j : ℕ). (place == j) ≡ true) same (number_itself place) in
                absurd cc))) ∙ is;
            node = refl;
            call = refl;
          }

  -- a caller has another view, behind this history
  set_callers : (nodes : List Node) (h now : List Noted) (ks : List InvokedState) (place : ℕ) (k : InvokedState)
      (v : CallerState) → slice_get ks place ≡ Some k → v.call ≡ k.caller.call
      → IsCaller nodes now (with_view k v)
      → ((j : ℕ) (m : InvokedState) → place ≢ j → slice_get ks j ≡ Some m → IsCaller nodes now m)
      → AreCallers nodes h ks → AreCallers nodes now (set ks place (with_view k v))
  set_callers nodes h now ks place k v at own here others a =
      record {
        each_is = λ j m is. each_of j m is (place == j) refl;
        apart = λ i j b c differ at_i at_j same. (
            let x : Had ks i b = had_by ks place i k b v at own at_i in
            let y : Had ks j c = had_by ks place j k c v at own at_j in
            subst (λ (n : CallName). same_name n c.caller.call ≡ false) x.call
            (subst (λ (n : CallName). same_name x.old.caller.call n ≡ false) y.call
            (a.apart i j x.old y.old differ x.at y.at (x.node ∙ same ∙ sym y.node))));
      }
    where
      each_of : (j : ℕ) (m : InvokedState) → slice_get (set ks place (with_view k v)) j ≡ Some m → (b : Bool)
          → (place == j) ≡ b → IsCaller nodes now m
      each_of j m is true same =
          (let place_is : place ≡ j = same_number place j same in
          subst (IsCaller nodes now)
          (one_is (with_view k v) m (sym (set_own ks place k (with_view k v) at)
          ∙ subst (λ (i : ℕ). slice_get (set ks place (with_view k v)) i ≡ Some m) (sym place_is) is)) here)
      each_of j m is false differ =
          (let apart : place ≢ j = λ same. (
          let yes : (place == j) ≡ true = subst (λ (i : ℕ). (place == i) ≡ true) same (number_itself place) in
          absurd cc) in
          others j m apart (sym (set_other ks place j (with_view k v) apart) ∙ is))

  follow_offer : (x : Seen) (place : ℕ) (k : InvokedState) → slice_get x.callers place ≡ Some k → IsFollowed x
      → IsFollowed (record x { callers = set x.callers place (with_view k (caller_begun k.caller)) })
  follow_offer x place k at q =
      record {
        allowed = q.allowed;
        links = q.links;
        played = λ are. (
            let p = q.played are in
            let i = p.callers.each_is place k at in
            record {
              serves = p.serves;
              callers = set_callers x.nodes x.history x.history x.callers place k (caller_begun k.caller) at refl
                  (record {
                    origin = i.origin;
                    fits = i.fits;
                    node = i.node;
                    drives = driven.begins k.caller (side k.node x.history) i.drives;
                  }) (λ j m differ there. p.callers.each_is j m there) p.callers;
              each_has = λ j n host epoch there kind c t.
                  has_set x.callers place k (caller_begun k.caller) j c at refl
                  (p.each_has j n host epoch there kind c t);
            });
      }

  follow_call : (x : Seen) (place : ℕ) (k : InvokedState) (a : Asking) (e : Event) → slice_get x.callers place ≡ Some k
      → (calling REPLY_BYTES).asks k.caller ≡ Some a → IsAsked a e → IsAllowedAt x.nodes x.history k.node e
      → IsFollowed x
      → IsFollowed (record (seen_behind k.node e x) { callers = set x.callers place (with_view k (heard k.caller e)) })
  follow_call x place k a e at asked is allowed q =
      record {
        allowed = (allowed, q.allowed);
        links = (asked_links x.nodes a e is, q.links);
        played = λ are. (
            let p = q.played are in
            let i = p.callers.each_is place k at in
            let h : List Noted = x.history in
            record {
              serves = side_by (Serves g x.turning) 0 k.node e h
                  (λ same s. absurd (client_apart x.nodes k.node are i.node same)) p.serves;
              callers = set_callers x.nodes h (noted k.node e ∷ h) x.callers place k (heard k.caller e) at
                  (heard_call k.caller e)
                  (record {
                    origin = i.origin;
                    fits = i.fits;
                    node = i.node;
                    drives = subst (Drives REPLY_BYTES (request_of k.line i.origin) (heard k.caller e))
                        (sym (side_own k.node e h))
                        (driven.makes k.caller a e (side k.node h) asked is i.drives);
                  })
                  (λ j m differ there. (
                  let o = p.callers.each_is j m there in
                  record {
                    origin = o.origin;
                    fits = o.fits;
                    node = o.node;
                    drives = side_by (Drives REPLY_BYTES (request_of m.line o.origin) m.caller) m.node k.node e h
                        (λ same d.
                        driven.leaves m.caller e (side m.node h)
                        (asked_leaves m.caller.call a e is
                        (ap (same_name m.caller.call) (asks_own REPLY_BYTES k.caller a asked)
                        ∙ p.callers.apart j place m k (λ equal. differ (sym equal)) there at (sym same))) d) o.drives;
                  })) p.callers;
              each_has = each_event x.nodes h x.callers (set x.callers place (with_view k (heard k.caller e))) k.node e
                  allowed (λ j c has. has_set x.callers place k (heard k.caller e) j c at (heard_call k.caller e) has)
                  (λ c. inl (none_called c e (asked_none a e is))) p.each_has;
            });
      }

  -- all of these follow what a driven plan makes
  pub followed : Carries g Asks IsFollowed
  followed =
      record {
        quiet = follow_quiet;
        invokes = follow_invoke;
        accepts_first = follow_begin;
        serves = follow_serve;
        offers_first = follow_offer;
        calls = follow_call;
      }

  -- where nothing was made but nodes
  pub empty_followed : (s : Stage) → IsEmpty s → IsFollowed (seen s)
  empty_followed s e =
      record {
        allowed = subst (AreAllowed s.nodes) (sym e.history) tt;
        links = subst (AreServed s.nodes) (sym e.history) tt;
        played = λ are. record {
          serves =
              subst (λ (h : List Noted). Serves g (over s.jobs) (side 0 h)) (sym e.history)
              (subst (λ (js : List JobState). Serves g (over js) []) (sym e.jobs) handling.starts);
          callers =
              subst (AreCallers s.nodes s.history) (sym e.callers)
              (record { each_is = λ j k at. absurd cc; apart = λ i j a b differ at_i at_j same. absurd cc });
          each_has = λ j n host epoch there kind c t. absurd (
              let none : call_at (looks n.setup (side j [])) c ≡ Some t.call =
              subst (λ (h : List Noted). call_at (looks n.setup (side j h)) c ≡ Some t.call) e.history t.there in cc);
        };
      }
