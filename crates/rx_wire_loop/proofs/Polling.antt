-- Polls of a node, whose datagrams are passed on.
use Rattle.std.proofs.Common.{◌≡◌, ◌≢◌, ◌⊎◌, ◌∙◌, ◌≤◌, ◌+◌, ◌-◌, ◌^◌, ℕ, Bool, true, false, List, [], ◌∷◌, ◌++◌}
use Rattle.std.proofs.Common.{append_assoc}
use Rattle.std.proofs.Common.{Option, Some, None, Result, Ok, Err, refl, sym, ap, subst, arith, inl, inr, drop, length}
use Rattle.std.proofs.Common.{take}
use Rattle.std.proofs.lemmas.List.{append-nil, length-append, length-map, map-append}
use Rattle.std.proofs.Math.Seq.{take-append_seam}
use Rattle.rx_jumbo.specs.JoinerState.{JoinerState}
use Rattle.rx_model.specs.declared.event.Event.{Event}
use Rattle.rx_model.specs.declared.event.Event.TheVariants as events
use Rattle.rx_model.specs.declared.event.Noted.{Noted}
use Rattle.rx_model.specs.declared.names.Host.{Host}
use Rattle.rx_rules.specs.After.{looks}
use Rattle.rx_rules.specs.Setup.{Setup}
use Rattle.rx_wire.specs.Wire.{Logged}
use Rattle.rx_history.proofs.Moments.{now-after}
use Rattle.rx_wire.specs.Journal.{HasNoted}
use Rattle.rx_wire.specs.Turns.{noted}
use Rattle.rx_wire.proofs.TurnLaws.{HasNotedAll-none}
use Rattle.rx_jumbo.specs.Parts.{is_jumbo}
use Rattle.rx_model.specs.declared.wire.TheConstants.{DATAGRAM_BYTES}
use Rattle.rx_rules.specs.Rules.{Legal}
use Rattle.rx_rules.specs.Setup.{FitsSetup}
use Rattle.std.specs.Prelude.{IfOk, map}
use Rattle.rx_drive.specs.declared.stop.Stop.{Stop}
use Rattle.rx_drive.specs.declared.stop.Stop.TheVariants as stops
use Rattle.rx_drive.specs.Nodes.{Answers}
use Rattle.rx_drive.specs.Tells.{moment_after}
use Rattle.rx_wire_loop.specs.Parts.{Came, Cut, Part, Place, To, behind}
use Rattle.rx_wire_loop.specs.Ports.{AreUnjoinable, AreOfFew, CutsOne, CutsPolls, Empties, EndsAPoll, Gave, IsWithin}
use Rattle.rx_wire_loop.specs.Ports.{NotesOne, Passes, PassesOn, PollsCut, PollsOne, PollsOut, PortsState, as_one}
use Rattle.rx_wire_loop.specs.Ports.{gave_all}
use Rattle.rx_wire_loop.specs.Ports.{held, parts_all, polled_all, polls, polls_once, split}
use Rattle.rx_drive.specs.Ran.{stop_of}
use Rattle.rx_wire_loop.specs.Runs.{Fits, IsAt, IsBehind, Plays, Ran, change}
use Rattle.rx_wire_loop.specs.Tells.{SinkTells, Told, WireTells, told}
use Rattle.rx_wire_loop.proofs.Unjoinable.{unjoinable_front, unjoinable_last, unjoinable_offered, some_offered}
use Rattle.rx_wire_loop.proofs.Giving.{gave_all_both, joined_last, joined_more, parts_all_both, some_last}
use Rattle.rx_wire_loop.proofs.Noting.{note_refused, noted_gains, one_noted, one_refused}
use Rattle.rx_wire_loop.proofs.Single.{single_polled}
use Rattle.rx_wire_loop.proofs.Running.{plays_as, plays_at, plays_cut, plays_join, stops_any}
use Rattle.rx_wire_loop.proofs.Telling.{gained_none, gains_both, breaks_behind}
use Rattle.rx_wire_loop.specs.Tells.{Breaks, Gains, Refuses}

-- ---- one poll

-- datagrams given leave the moment as it is
given_moment : (ds : List (Host × List ℕ)) (now : ℕ) → moment_after (gave_all ds) now ≡ now
given_moment [] now = refl
given_moment (d ∷ ds) now = given_moment ds now

module _ (n : ℕ) (s : Setup) (s0 s1 : List Event → Type 0) (book after : Option (List Noted)) (sink : SinkTells)
    (wire : WireTells) (j : JoinerState) where
  -- it gave none, and that was noted
  pub none_polled : Answers s s0 s1 (events.Polled None) → HasNoted book after (noted n (events.Polled None))
      → Plays (change n s s0 s1 (told book sink wire) (told after sink wire)) (polls_once j j) (λ b. b ≡ false) None
  none_polled answers one =
      one_noted n s s0 s1 book after sink wire (events.Polled None) refl (polls_once j j) false (λ b. b ≡ false) answers
      (λ p at. ((refl, refl, refl), at.later)) refl one

  pub none_refused : (k : JoinerState) (shows : Bool → Type 0) → Answers s s0 s1 (events.Polled None) → after ≡ book
      → Plays (change n s s0 s1 (told book sink wire) (told after sink wire)) (polls_once j k) shows
      (Some stops.Unnoted)
  none_refused k shows answers same =
      one_refused n s s0 s1 book after sink wire (events.Polled None) refl (polls_once j k) shows answers
      (λ p at. inl (refl, refl, refl)) same

module _ (n : ℕ) (s : Setup) (s0 s1 : List Event → Type 0) (book after : Option (List Noted)) (sink : SinkTells)
    (first last : WireTells) (j k : JoinerState) (d : Host × List ℕ) (answers : Answers s s0 s1
    (events.Polled (Some d)))
  where
    abbrev e : Event
    e = events.Polled (Some d)

    -- what was noted and then given
    gains_given : (given : List (Host × List ℕ)) → HasNoted book after (noted n e) → Gave first last given None
        → Gains n (told book sink first) (told after sink last) (e ∷ []) (gave_all given)
    gains_given given one gave =
        gains_both n (told book sink first) (told after sink first) (told after sink last) (e ∷ []) [] []
        (gave_all given)
        (noted_gains n s s0 s1 book after sink first e refl one)
        (record {
          noted = HasNotedAll-none after n;
          put = gained_none sink.put;
          log = gave.0;
          puts = refl;
          calls = gave.1;
        })

    breaks_given : (given : List (Host × List ℕ)) → HasNoted book after (noted n e)
        → Gave first last given (Some stops.WireFault)
        → Breaks n (told book sink first) (told after sink last) (e ∷ []) (gave_all given)
    breaks_given given one gave =
        breaks_behind n (told book sink first) (told after sink first) (told after sink last) (e ∷ []) [] []
        (gave_all given)
        (noted_gains n s s0 s1 book after sink first e refl one)
        (record {
          noted = HasNotedAll-none after n;
          put = gained_none sink.put;
          log = gave.0;
          puts = refl;
          calls = gave.1;
        })

    at_given : (given : List (Host × List ℕ)) (p : Place) → Gave first last given None
        → IsAt s s0 (told book sink first) p → IsAt s s1 (told after sink last) (behind (e ∷ []) (gave_all given) p)
    at_given given p gave at =
        record {
          standing = (answers p.history at.standing).1;
          now = given_moment given p.now ∙ at.now ∙ sym gave.2;
          later = subst (λ (t : ℕ). t ≤ moment_after (gave_all given) p.now) (sym (now-after s (looks s p.history) e))
              (subst (λ (t : ℕ). (looks s p.history).now ≤ t) (sym (given_moment given p.now)) at.later);
        }

    -- it gave this datagram, which was passed on
    pub one_passed : HasNoted book after (noted n e) → Passes d j k first last None
        → Plays (change n s s0 s1 (told book sink first) (told after sink last)) (polls_once j k) (λ b. b ≡ true) None
    one_passed one passes p at =
        record {
          events = e ∷ [];
          log = gave_all passes.given;
          came = To true;
          made = record {
            datagram = d;
            given = passes.given;
            events = refl;
            log = refl;
            rest = passes.rest;
            few = passes.few;
          };
          legal = λ is. ((answers p.history at.standing).0, is);
          fits = (refl, gains_given passes.given one passes.gave, at_given passes.given p passes.gave at);
        }

    -- its note was refused
    pub one_unnoted : (shows : Bool → Type 0) → after ≡ book → last ≡ first
        → Plays (change n s s0 s1 (told book sink first) (told after sink last)) (polls_once j k) shows
        (Some stops.Unnoted)
    one_unnoted shows same wire p at =
        record {
          events = e ∷ [];
          log = [];
          came = Cut stops.Unnoted;
          made = inr (inl refl, (d, refl, refl));
          legal = λ is. ((answers p.history at.standing).0, is);
          fits = (
            refl,
            subst (λ (w : WireTells). Refuses n (told book sink first) (told after sink w) (e ∷ []) []) (sym wire)
                (note_refused n s s0 s1 book after sink first e refl same),
          );
        }

    -- the wire failed
    pub one_failed : (shows : Bool → Type 0) → HasNoted book after (noted n e)
        → Passes d j k first last (Some stops.WireFault)
        → Plays (change n s s0 s1 (told book sink first) (told after sink last)) (polls_once j k) shows
        (Some stops.WireFault)
    one_failed shows one passes p at =
        record {
          events = e ∷ [];
          log = gave_all passes.given;
          came = Cut stops.WireFault;
          made = inr (inr refl, (d, refl, ap gave_all passes.rest));
          legal = λ is. ((answers p.history at.standing).0, is);
          fits = (refl, breaks_given passes.given one passes.gave);
        }

-- ---- polls so far

-- those held back are as many as their bytes
held_count : (j : JoinerState) → length (held j) ≡ length j.datagrams
held_count j = length-map j.datagrams (λ b. (j.host, b))

-- what is missing is at most what is held back, and one more
late_held : (most : ℕ) (j : JoinerState) → length j.datagrams ≤ most → length (held j) ≤ most + 1
late_held most j few = (let count = held_count j in omega (arith, count, few))

late_more : (most : ℕ) (j : JoinerState) (d : Host × List ℕ) → length j.datagrams ≤ most
    → length (held j ++ d ∷ []) ≤ most + 1
late_more most j d few =
    (let count = held_count j in
    let more : length (held j ++ d ∷ []) ≡ length (held j) + 1 = length-append (held j) (d ∷ []) in
    omega (arith, count, more, few))

-- so many datagrams were polled, and given but for those that are held back
pub record PollsSo (most : ℕ) (j : JoinerState) (count : ℕ) (es : List Event) (ls : List Logged) : Type 0 where
  pub polled : List (Host × List ℕ)
  pub counted : length polled ≡ count
  pub given : List (Host × List ℕ)
  pub events : es ≡ polled_all polled
  pub log : ls ≡ gave_all given
  pub joined : parts_all given ++ held j ≡ polled
  pub few : AreOfFew most given
  pub greedy : AreUnjoinable most (map split given ++ as_one j.host j.datagrams)
  pub first : j.datagrams ≡ [] → given ≡ []
  pub within : length j.datagrams ≤ most

abbrev pub polls_so : ℕ → JoinerState → ℕ → Part (Unit {0})
polls_so most j count p es ls (To done) = PollsSo most j count es ls
polls_so most j count p es ls (Cut stop) = Unit {0}

abbrev pub Anyhow : Unit {0} → Type 0
Anyhow u = Unit {0}

few_both : (most : ℕ) (xs ys : List (Host × List ℕ)) → AreOfFew most xs → AreOfFew most ys → AreOfFew most (xs ++ ys)
few_both most [] ys first second = second
few_both most (x ∷ xs) ys first second = (first.0, few_both most xs ys first.1 second)

none_within : (j : JoinerState) → j.datagrams ≡ [] → length j.datagrams ≤ j.most
none_within j none =
    (let count : length j.datagrams ≡ 0 = ap (λ (ds : List (List ℕ)). length ds) none in omega (arith, count))

-- none yet
pub polls_none : (n : ℕ) (s : Setup) (stands : List Event → Type 0) (t : Told) (j : JoinerState) → j.datagrams ≡ []
    → Plays (change n s stands stands t t) (polls_so j.most j 0) Anyhow None
polls_none n s stands t j none p at =
    record {
      events = [];
      log = [];
      came = To tt;
      made = record {
        polled = [];
        counted = refl;
        given = [];
        events = refl;
        log = refl;
        joined = rw none refl;
        few = tt;
        greedy = rw none tt;
        first = λ empty. refl;
        within = none_within j none;
      };
      legal = λ is. is;
      fits = (tt, Rattle.rx_wire_loop.proofs.Telling.gains_none n t, at);
    }

-- a note was refused, or the wire failed and some is missing
cuts_of : (why : Stop) (missing : List (Host × List ℕ)) (es : List Event) → EndsAPoll why → missing ≢ []
    → CutsPolls why missing es
cuts_of why missing es (inl refused) some = subst (λ (k : Stop). CutsPolls k missing es) (sym refused) tt
cuts_of why missing es (inr failed) some = subst (λ (k : Stop). CutsPolls k missing es) (sym failed) some

-- polls that gave these, and one more that gave one
polled_more : (es fs : List Event) (ds : List (Host × List ℕ)) (d : Host × List ℕ) → es ≡ polled_all ds
    → fs ≡ events.Polled (Some d) ∷ [] → es ++ fs ≡ polled_all (ds ++ d ∷ [])
polled_more es fs ds d first last =
    rw first (rw last (sym (map-append (λ (d : Host × List ℕ). events.Polled (Some d)) ds (d ∷ []))))

module _ (most : ℕ) (j k : JoinerState) (count : ℕ) (es fs : List Event) (ls ms : List Logged) where
  -- one more, which gave a datagram
  so_more : PollsSo most j count es ls → j.most ≡ most → length k.datagrams ≤ most → PollsOne j k fs ms
      → PollsSo most k (count + 1) (es ++ fs) (ls ++ ms)
  so_more x is within y =
      record {
        polled = x.polled ++ y.datagram ∷ [];
        counted = length-append x.polled (y.datagram ∷ []) ∙ ap (λ (m : ℕ). m + 1) x.counted;
        given = x.given ++ y.given;
        events = polled_more es fs x.polled y.datagram x.events y.events;
        log = rw x.log (rw y.log (sym (gave_all_both x.given y.given)));
        joined =
            ap (λ (zs : List (Host × List ℕ)). zs ++ held k) (parts_all_both x.given y.given)
            ∙ append_assoc (parts_all x.given) (parts_all y.given) (held k)
            ∙ ap (λ (zs : List (Host × List ℕ)). parts_all x.given ++ zs)
            (joined_more j k y.datagram y.given y.rest)
            ∙ sym (append_assoc (parts_all x.given) (held j) (y.datagram ∷ []))
            ∙ ap (λ (zs : List (Host × List ℕ)). zs ++ y.datagram ∷ []) x.joined;
        few = few_both most x.given y.given x.few (subst (λ (m : ℕ). AreOfFew m y.given) is y.few);
        greedy = unjoinable_offered most j k y.datagram x.given y.given is y.rest x.first x.greedy;
        first = λ empty. absurd (some_offered j k y.datagram y.given y.rest empty);
        within = within;
      }

  -- one that was cut off
  so_cut : (why : Stop) → PollsSo most j count es ls → EndsAPoll why → CutsOne fs ms
      → PollsCut most why (es ++ fs) (ls ++ ms)
  so_cut why x reason (d, last, none) =
      record {
        polled = x.polled ++ d ∷ [];
        given = x.given;
        missing = held j ++ d ∷ [];
        events = inl (polled_more es fs x.polled d x.events last);
        log = rw none (append-nil ls ∙ x.log);
        joined =
            sym (append_assoc (parts_all x.given) (held j) (d ∷ []))
            ∙ ap (λ (zs : List (Host × List ℕ)). zs ++ d ∷ []) x.joined;
        late = late_more most j d x.within;
        few = x.few;
        greedy = unjoinable_front most (map split x.given) (as_one j.host j.datagrams) x.greedy;
        reason = cuts_of why (held j ++ d ∷ []) (es ++ fs) reason (some_last (held j) d);
      }

  -- the last one
  so_none : (why : Stop) → PollsSo most j count es ls → why ≡ stops.Unnoted → fs ≡ events.Polled None ∷ [] → ms ≡ []
      → PollsCut most why (es ++ fs) (ls ++ ms)
  so_none why x refused last none =
      record {
        polled = x.polled;
        given = x.given;
        missing = held j;
        events = inr (rw x.events (rw last refl));
        log = rw none (append-nil ls ∙ x.log);
        joined = x.joined;
        late = late_held most j x.within;
        few = x.few;
        greedy = unjoinable_front most (map split x.given) (as_one j.host j.datagrams) x.greedy;
        reason = subst (λ (i : Stop). CutsPolls i (held j) (es ++ fs)) (sym refused) tt;
      }

-- ---- the loop

module _ (n : ℕ) (s : Setup) (s0 s1 s2 : List Event → Type 0) (a b c : Told) (most : ℕ) (j k : JoinerState)
    (count : ℕ) (is : j.most ≡ most) where
  -- a poll gave a datagram
  pub polls_more : length k.datagrams ≤ most → Plays (change n s s0 s1 a b) (polls_so most j count) Anyhow None
      → Plays (change n s s1 s2 b c) (polls_once j k) (λ r. r ≡ true) None
      → Plays (change n s s0 s2 a c) (polls_so most k (count + 1)) Anyhow None
  polls_more within first second =
      plays_join n s s0 s1 s2 a b c (polls_so most j count) (λ u. polls_once j k) (polls_so most k (count + 1))
      (λ r. tt)
      Anyhow (λ r. r ≡ true) Anyhow None
      (λ p es fs ls ms u r i holds made one. so_more most j k count es fs ls ms made is within
      (subst (λ (r' : Bool). polls_once j k (behind es ls p) fs ms (To r')) holds one))
      (λ p es fs ls ms u why i made one. tt) (λ r holds. tt) first (λ u i. second)

  -- passes ended at a poll
  pub polls_stopped : (stop : Stop) (shows : Bool → Type 0)
      → Plays (change n s s0 s1 a b) (polls_so most j count) Anyhow None
      → Plays (change n s s1 s2 b c) (polls_once j k) shows (Some stop)
      → Plays (change n s s0 s2 a c) (polls most) Anyhow (Some stop)
  polls_stopped stop shows first second =
      plays_cut n s s0 s1 s2 a b c (polls_so most j count) (λ u. polls_once j k) (polls most) (λ r. tt) Anyhow shows
      Anyhow stop
      (λ p es fs ls ms u why i made one. cut es fs ls ms why made one) first (λ u i. second)
    where
      cut : (es fs : List Event) (ls ms : List Logged) (why : Stop) → PollsSo most j count es ls
          → ((why ≡ stops.Unnoted) × (fs ≡ events.Polled None ∷ []) × (ms ≡ []))
          ⊎ (EndsAPoll why × CutsOne fs ms)
          → PollsCut most why (es ++ fs) (ls ++ ms)
      cut es fs ls ms why made (inl none) =
          so_none most j k count es fs ls ms why made none.0 none.1 none.2
      cut es fs ls ms why made (inr one) = so_cut most j k count es fs ls ms why made one.0 one.1

-- ---- the end of a polling

-- polls until one gave nothing; what they gave was given but for what is held back
pub record PollsLast (most : ℕ) (j : JoinerState) (es : List Event) (ls : List Logged) : Type 0 where
  pub polled : List (Host × List ℕ)
  pub given : List (Host × List ℕ)
  pub events : es ≡ polled_all polled ++ events.Polled None ∷ []
  pub log : ls ≡ gave_all given
  pub joined : parts_all given ++ held j ≡ polled
  pub few : AreOfFew most given
  pub greedy : AreUnjoinable most (map split given ++ as_one j.host j.datagrams)
  pub within : length j.datagrams ≤ most

abbrev pub polls_last : ℕ → JoinerState → Part (Unit {0})
polls_last most j p es ls (To done) = PollsLast most j es ls
polls_last most j p es ls (Cut stop) = Unit {0}

-- what is held back is given
pub record Flushed (most : ℕ) (j : JoinerState) (es : List Event) (ls : List Logged) : Type 0 where
  pub given : List (Host × List ℕ)
  pub events : es ≡ []
  pub log : ls ≡ gave_all given
  pub whole : map split given ≡ as_one j.host j.datagrams
  pub few : AreOfFew most given

abbrev pub flushes : ℕ → JoinerState → Part (Unit {0})
flushes most j p es ls (To done) = Flushed most j es ls
flushes most j p es ls (Cut stop) = (stop ≡ stops.WireFault) × (held j ≢ []) × (es ≡ []) × (ls ≡ [])

module _ (n : ℕ) (s : Setup) (stands : List Event → Type 0) (book : Option (List Noted)) (sink : SinkTells)
    (first last : WireTells) (j k : JoinerState) where
  flush_at : (given : List (Host × List ℕ)) (p : Place) → last.moment ≡ first.moment
      → IsAt s stands (told book sink first) p
      → IsAt s stands (told book sink last) (behind [] (gave_all given) p)
  flush_at given p same at =
      record {
        standing = at.standing;
        now = given_moment given p.now ∙ at.now ∙ sym same;
        later = subst (λ (t : ℕ). (looks s p.history).now ≤ t) (sym (given_moment given p.now)) at.later;
      }

  pub flush_plays : (stop : Option Stop) → Empties j k first last stop
      → Plays (change n s stands stands (told book sink first) (told book sink last)) (flushes j.most j) Anyhow stop
  flush_plays None e p at =
      record {
        events = [];
        log = gave_all e.given;
        came = To tt;
        made = record { given = e.given; events = refl; log = refl; whole = e.rest.0; few = e.few };
        legal = λ is. is;
        fits = (
          tt,
          record {
            noted = HasNotedAll-none book n;
            put = gained_none sink.put;
            log = e.gave.0;
            puts = refl;
            calls = e.gave.1;
          },
          flush_at e.given p e.gave.2 at,
        );
      }
  flush_plays (Some stops.WireFault) e p at =
      record {
        events = [];
        log = gave_all e.given;
        came = Cut stops.WireFault;
        made = (refl, e.rest.1, refl, ap gave_all e.rest.0);
        legal = λ is. is;
        fits = (
          refl,
          record {
            noted = HasNotedAll-none book n;
            put = gained_none sink.put;
            log = e.gave.0;
            puts = refl;
            calls = e.gave.1;
          },
        );
      }
  flush_plays (Some stops.OutOfMemory) e p at = absurd e.gave
  flush_plays (Some stops.SinkFault) e p at = absurd e.gave
  flush_plays (Some stops.Unnoted) e p at = absurd e.gave
  flush_plays (Some stops.Endless) e p at = absurd e.gave
  flush_plays (Some stops.Unformatted) e p at = absurd e.gave

module _ (n : ℕ) (s : Setup) (s0 s1 s2 : List Event → Type 0) (a b c : Told) (most : ℕ) (j k : JoinerState)
    (count : ℕ) (is : j.most ≡ most) where
  -- a poll gave none
  pub polls_over : Plays (change n s s0 s1 a b) (polls_so most j count) Anyhow None
      → Plays (change n s s1 s2 b c) (polls_once j k) (λ r. r ≡ false) None
      → Plays (change n s s0 s2 a c) (polls_last most k) Anyhow None
  polls_over first second =
      plays_join n s s0 s1 s2 a b c (polls_so most j count) (λ u. polls_once j k) (polls_last most k) (λ r. tt) Anyhow
      (λ r. r ≡ false) Anyhow None
      (λ p es fs ls ms u r i off made one. over es fs ls ms made
      (subst (λ (r' : Bool). polls_once j k (behind es ls p) fs ms (To r')) off one))
      (λ p es fs ls ms u why i made one. tt) (λ r off. tt) first (λ u i. second)
    where
      over : (es fs : List Event) (ls ms : List Logged) → PollsSo most j count es ls
          → (fs ≡ events.Polled None ∷ []) × (ms ≡ []) × (k ≡ j) → PollsLast most k (es ++ fs) (ls ++ ms)
      over es fs ls ms x none =
          record {
            polled = x.polled;
            given = x.given;
            events = rw x.events (rw none.0 refl);
            log = rw none.1 (append-nil ls ∙ x.log);
            joined = subst (λ (i : JoinerState). parts_all x.given ++ held i ≡ x.polled) (sym none.2) x.joined;
            few = x.few;
            greedy = subst (λ (i : JoinerState). AreUnjoinable most (map split x.given ++ as_one i.host i.datagrams))
                (sym none.2) x.greedy;
            within = subst (λ (i : JoinerState). length i.datagrams ≤ most) (sym none.2) x.within;
          }

  -- what is held back was given, or the wire failed
  pub polls_flushed : (stop : Option Stop) → Plays (change n s s0 s1 a b) (polls_last most j) Anyhow None
      → Plays (change n s s1 s2 b c) (flushes j.most j) Anyhow stop
      → Plays (change n s s0 s2 a c) (polls most) Anyhow stop
  polls_flushed stop first second =
      plays_join n s s0 s1 s2 a b c (polls_last most j) (λ u. flushes j.most j) (polls most) (λ u. tt) Anyhow Anyhow
      Anyhow stop
      (λ p es fs ls ms u v i y made one. whole es fs ls ms made one)
      (λ p es fs ls ms u why i made one. cut es fs ls ms why made one) (λ u y. tt) first
      (λ u i. second)
    where
      whole : (es fs : List Event) (ls ms : List Logged) → PollsLast most j es ls → Flushed j.most j fs ms
          → PollsOut most (es ++ fs) (ls ++ ms)
      whole es fs ls ms x y =
          record {
            polled = x.polled;
            given = x.given ++ y.given;
            events = rw y.events (append-nil es ∙ x.events);
            log = rw x.log (rw y.log (sym (gave_all_both x.given y.given)));
            joined = joined_last j x.given y.given x.polled y.whole x.joined;
            few = few_both most x.given y.given x.few (subst (λ (m : ℕ). AreOfFew m y.given) is y.few);
            greedy = unjoinable_last most j x.given y.given y.whole x.greedy;
          }

      cut : (es fs : List Event) (ls ms : List Logged) (why : Stop) → PollsLast most j es ls
          → (why ≡ stops.WireFault) × (held j ≢ []) × (fs ≡ []) × (ms ≡ []) → PollsCut most why (es ++ fs) (ls ++ ms)
      cut es fs ls ms why x (failed, some, no_events, none) =
          record {
            polled = x.polled;
            given = x.given;
            missing = held j;
            events = inr (rw no_events (append-nil es ∙ x.events));
            log = rw none (append-nil ls ∙ x.log);
            joined = x.joined;
            late = late_held most j x.within;
            few = x.few;
            greedy = unjoinable_front most (map split x.given) (as_one j.host j.datagrams) x.greedy;
            reason = cuts_of why (held j) (es ++ fs) (inr failed) some;
          }

-- ---- polls that come to no end

-- so many polls gave something and none gave nothing; what is held back was given, or the wire failed
abbrev pub polls_gone : ℕ → Part (Unit {0})
polls_gone most p es ls (To done) = PollsCut most stops.Endless es ls
polls_gone most p es ls (Cut stop) = PollsCut most stop es ls

module _ (n : ℕ) (s : Setup) (s0 s1 s2 : List Event → Type 0) (a b c : Told) (most : ℕ) (j : JoinerState)
    (count : ℕ) (is : j.most ≡ most) (many : 2 ^ 64 - 1 ≤ count) where
  made_all : (es fs : List Event) (ls ms : List Logged) → PollsSo most j count es ls → Flushed j.most j fs ms
      → PollsCut most stops.Endless (es ++ fs) (ls ++ ms)
  made_all es fs ls ms x y =
      (let whole : es ++ fs ≡ polled_all x.polled = rw y.events (append-nil es ∙ x.events) in
      let long : length (es ++ fs) ≡ count =
      ap (λ (gs : List Event). length gs) whole ∙ length-map x.polled (λ d. events.Polled (Some d)) ∙ x.counted in
      record {
        polled = x.polled;
        given = x.given ++ y.given;
        missing = [];
        events = inl whole;
        log = rw x.log (rw y.log (sym (gave_all_both x.given y.given)));
        joined = append-nil (parts_all (x.given ++ y.given)) ∙ joined_last j x.given y.given x.polled y.whole x.joined;
        late = omega (arith);
        few = few_both most x.given y.given x.few (subst (λ (m : ℕ). AreOfFew m y.given) is y.few);
        greedy = unjoinable_last most j x.given y.given y.whole x.greedy;
        reason = (refl, subst (λ (k : ℕ). 2 ^ 64 - 1 ≤ k) (sym long) many);
      })

  failed_all : (es fs : List Event) (ls ms : List Logged) (why : Stop) → PollsSo most j count es ls
      → (why ≡ stops.WireFault) × (held j ≢ []) × (fs ≡ []) × (ms ≡ []) → PollsCut most why (es ++ fs) (ls ++ ms)
  failed_all es fs ls ms why x (failed, some, no_events, none) =
      record {
        polled = x.polled;
        given = x.given;
        missing = held j;
        events = inl (rw no_events (append-nil es ∙ x.events));
        log = rw none (append-nil ls ∙ x.log);
        joined = x.joined;
        late = late_held most j x.within;
        few = x.few;
        greedy = unjoinable_front most (map split x.given) (as_one j.host j.datagrams) x.greedy;
        reason = cuts_of why (held j) (es ++ fs) (inr failed) some;
      }

  gone : (stop : Option Stop) → Plays (change n s s0 s1 a b) (polls_so most j count) Anyhow None
      → Plays (change n s s1 s2 b c) (flushes j.most j) Anyhow stop
      → Plays (change n s s0 s2 a c) (polls_gone most) Anyhow stop
  gone stop first second =
      plays_join n s s0 s1 s2 a b c (polls_so most j count) (λ u. flushes j.most j) (polls_gone most) (λ u. tt) Anyhow
      Anyhow Anyhow stop
      (λ p es fs ls ms u v i y made one. made_all es fs ls ms made one)
      (λ p es fs ls ms u why i made one. failed_all es fs ls ms why made one)
      (λ u y. tt) first (λ u i. second)

  -- what is held back was given
  pub polls_endless : Plays (change n s s0 s1 a b) (polls_so most j count) Anyhow None
      → Plays (change n s s1 s2 b c) (flushes j.most j) Anyhow None
      → Plays (change n s s0 s2 a c) (polls most) Anyhow (Some stops.Endless)
  polls_endless first second p at = of r.came r.made r.fits
    where
      r : Ran (change n s s0 s2 a c) (polls_gone most) Anyhow None p
      r = gone None first second p at

      of : (came : Came (Unit {0})) → polls_gone most p r.events r.log came
          → Fits (change n s s0 s2 a c) Anyhow p r.events r.log came None
          → Ran (change n s s0 s2 a c) (polls most) Anyhow (Some stops.Endless) p
      of (To u) made (i, told, here) =
          record {
            events = r.events;
            log = r.log;
            came = Cut stops.Endless;
            made = made;
            legal = r.legal;
            fits = (refl, told);
          }
      of (Cut why) made fits = absurd fits

  -- the wire failed
  pub polls_unflushed : (stop : Stop) → Plays (change n s s0 s1 a b) (polls_so most j count) Anyhow None
      → Plays (change n s s1 s2 b c) (flushes j.most j) Anyhow (Some stop)
      → Plays (change n s s0 s2 a c) (polls most) Anyhow (Some stop)
  polls_unflushed stop first second =
      plays_as n s s0 s2 a c (polls_gone most) (polls most) (λ u. u) (λ u. ⊥) Anyhow (Some stop)
      (λ p es ls u none made. absurd none) (λ p es ls why made. made) (λ u none. absurd none)
      (stops_any n s s0 s2 a c (polls_gone most) Anyhow (λ u. ⊥) stop (gone (Some stop) first second))

-- ---- one poll, by how it ended

module _ (n : ℕ) (s : Setup) (s0 s1 : List Event → Type 0) (book after : Option (List Noted)) (sink : SinkTells)
    (first last : WireTells) (j k : JoinerState) (d : Host × List ℕ) where
  -- it gave a datagram
  pub polled_on : (result : Result Bool Stop) → Answers s s0 s1 (events.Polled (Some d))
      → PassesOn n j k book after d first last (stop_of result) → IfOk result (λ b. b ≡ true)
      → Plays (change n s s0 s1 (told book sink first) (told after sink last)) (polls_once j k)
      (λ b. IfOk result (λ r. b ≡ r)) (stop_of result)
  polled_on (Ok b) answers passed is =
      plays_as n s s0 s1 (told book sink first) (told after sink last) (polls_once j k) (polls_once j k) (λ x. x)
      (λ x. x ≡ true) (λ x. x ≡ b) None (λ q es ls x there made. made) (λ q es ls why made. made)
      (λ x there. there ∙ sym is)
      (one_passed n s s0 s1 book after sink first last j k d answers passed.0 passed.1)
  polled_on (Err stops.Unnoted) answers passed is =
      one_unnoted n s s0 s1 book after sink first last j k d answers (λ x. Unit {0}) passed.0 passed.1
  polled_on (Err stops.WireFault) answers passed is =
      one_failed n s s0 s1 book after sink first last j k d answers (λ x. Unit {0}) passed.0 passed.1
  polled_on (Err stops.OutOfMemory) answers passed is = absurd passed
  polled_on (Err stops.SinkFault) answers passed is = absurd passed
  polled_on (Err stops.Endless) answers passed is = absurd passed
  polled_on (Err stops.Unformatted) answers passed is = absurd passed

-- a single datagram that is short enough
pub single_in : (s : Setup) (s0 s1 : List Event → Type 0) (now : ℕ) (to : Host) (d b : List ℕ) → d ≡ b
    → IsBehind s s0 now → ((h : List Event) → s0 h → Legal s h) → FitsSetup s
    → Answers s s0 s1 (events.Polled (Some (to, b))) → (is_jumbo d ≡ false) × (length d ≤ DATAGRAM_BYTES)
single_in s s0 s1 now to d b same (h, there, low) law fits answers =
    rw same (single_polled s h to b fits (law h there) (answers h there).0)

module _ (n : ℕ) (s : Setup) (s0 s1 : List Event → Type 0) (book after : Option (List Noted)) (sink : SinkTells)
    (wire : WireTells) (j : JoinerState) where
  -- it gave none
  pub none_on : (result : Result Bool Stop) → Answers s s0 s1 (events.Polled None)
      → NotesOne n book after (events.Polled None) (stop_of result) → IfOk result (λ b. b ≡ false)
      → Plays (change n s s0 s1 (told book sink wire) (told after sink wire)) (polls_once j j)
      (λ b. IfOk result (λ r. b ≡ r)) (stop_of result)
  none_on (Ok b) answers notes is =
      plays_as n s s0 s1 (told book sink wire) (told after sink wire) (polls_once j j) (polls_once j j) (λ x. x)
      (λ x. x ≡ false) (λ x. x ≡ b) None (λ q es ls x there made. made) (λ q es ls why made. made)
      (λ x there. there ∙ sym is) (none_polled n s s0 s1 book after sink wire j answers notes)
  none_on (Err stops.Unnoted) answers notes is =
      none_refused n s s0 s1 book after sink wire j j (λ x. Unit {0}) answers notes
  none_on (Err stops.OutOfMemory) answers notes is = absurd notes
  none_on (Err stops.SinkFault) answers notes is = absurd notes
  none_on (Err stops.WireFault) answers notes is = absurd notes
  none_on (Err stops.Endless) answers notes is = absurd notes
  none_on (Err stops.Unformatted) answers notes is = absurd notes

module _ (v : PortsState) (n : ℕ) (j : JoinerState) (is : record { node = n; joiner = j } ≡ v) (s : Setup)
    (s0 s1 : List Event → Type 0) (book after : Option (List Noted)) (sink : SinkTells) (first last : WireTells)
    (k : JoinerState) (to : Host) (d b : List ℕ) (result : Result Bool Stop) where
  -- the same by the view of a node's ports, with the bytes that the poll wrote
  pub polled_in : d ≡ b → Answers s s0 s1 (events.Polled (Some (to, b)))
      → PassesOn n j k book after (to, d) first last (stop_of result) → IfOk result (λ x. x ≡ true)
      → Plays (change v.node s s0 s1 (told book sink first) (told after sink last)) (polls_once v.joiner k)
      (λ x. IfOk result (λ r. x ≡ r)) (stop_of result)
  polled_in same answers passes holds =
      subst (λ (w : PortsState). Plays (change w.node s s0 s1 (told book sink first) (told after sink last))
      (polls_once w.joiner k) (λ x. IfOk result (λ r. x ≡ r)) (stop_of result)) is
      (polled_on n s s0 s1 book after sink first last j k (to, d) result
      (subst (λ (x : List ℕ). Answers s s0 s1 (events.Polled (Some (to, x)))) (sym same) answers) passes holds)

module _ (v : PortsState) (n : ℕ) (j : JoinerState) where
  pub none_in : record { node = n; joiner = j } ≡ v
      → (s : Setup) (s0 s1 : List Event → Type 0) (book after : Option (List Noted)) (sink : SinkTells)
      (wire : WireTells) (result : Result Bool Stop)
      → Answers s s0 s1 (events.Polled None) → NotesOne n book after (events.Polled None) (stop_of result)
      → IfOk result (λ b. b ≡ false)
      → Plays (change v.node s s0 s1 (told book sink wire) (told after sink wire)) (polls_once v.joiner j)
      (λ b. IfOk result (λ r. b ≡ r)) (stop_of result)
  none_in is s s0 s1 book after sink wire result answers notes holds =
      subst (λ (w : PortsState). Plays (change w.node s s0 s1 (told book sink wire) (told after sink wire))
      (polls_once w.joiner j) (λ x. IfOk result (λ r. x ≡ r)) (stop_of result)) is
      (none_on n s s0 s1 book after sink wire j result answers notes holds)

-- ---- the loop, where its node and its setup have other names

module _ (n m : ℕ) (s t : Setup) (s0 s1 s2 : List Event → Type 0) (a b c : Told) (most : ℕ) (j k : JoinerState)
    (count : ℕ) (number : m ≡ n) (setup : t ≡ s) (is : j.most ≡ most) where
  pub polls_step : (again : Bool) → again ≡ true → IsWithin k → k.most ≡ most
      → Plays (change n s s0 s1 a b) (polls_so most j count) Anyhow None
      → Plays (change m t s1 s2 b c) (polls_once j k) (λ r. r ≡ again) None
      → Plays (change n s s0 s2 a c) (polls_so most k (count + 1)) Anyhow None
  polls_step again on within same first second =
      polls_more n s s0 s1 s2 a b c most j k count is (subst (λ (m : ℕ). length k.datagrams ≤ m) same within.few) first
      (plays_at n m s t s1 s2 b c (polls_once j k) (λ r. r ≡ true) None number setup
      (subst (λ (x : Bool). Plays (change m t s1 s2 b c) (polls_once j k) (λ r. r ≡ x) None) on second))

  pub polls_ends : (stop : Stop) (shows : Bool → Type 0)
      → Plays (change n s s0 s1 a b) (polls_so most j count) Anyhow None
      → Plays (change m t s1 s2 b c) (polls_once j k) shows (Some stop)
      → Plays (change n s s0 s2 a c) (polls most) Anyhow (Some stop)
  polls_ends stop shows first second =
      polls_stopped n s s0 s1 s2 a b c most j k count is stop shows first
      (plays_at n m s t s1 s2 b c (polls_once j k) shows (Some stop) number setup second)

module _ (n m : ℕ) (s t : Setup) (s0 s1 s2 : List Event → Type 0) (a b : Told) (book : Option (List Noted))
    (sink : SinkTells) (first last : WireTells) (most : ℕ) (j k l : JoinerState) (count : ℕ) where
  pub polls_whole : m ≡ n → t ≡ s → j.most ≡ most → k.most ≡ most → (again : Bool) → again ≡ false
      → (stop : Option Stop) → Plays (change n s s0 s1 a b) (polls_so most j count) Anyhow None
      → Plays (change m t s1 s2 b (told book sink first)) (polls_once j k) (λ r. r ≡ again) None
      → Empties k l first last stop → Plays (change n s s0 s2 a (told book sink last)) (polls most) Anyhow stop
  polls_whole number setup was is again off stop so once
      flush =
      polls_flushed n s s0 s2 s2 a (told book sink first) (told book sink last) most k k count is stop
      (polls_over n s s0 s1 s2 a b (told book sink first) most j k count was so
      (plays_at n m s t s1 s2 b (told book sink first) (polls_once j k) (λ r. r ≡ false) None number setup
      (subst (λ (x : Bool). Plays (change m t s1 s2 b (told book sink first)) (polls_once j k) (λ r. r ≡ x) None) off
      once)))
      (flush_plays n s s2 book sink first last k l stop flush)

-- a buffer that was lent whole has what was put there
pub restored : (n : ℕ) (xs ys : List ℕ) → length xs ≡ n → take n (xs ++ drop (length xs) ys) ≡ xs
restored n xs ys whole =
    subst (λ (k : ℕ). take k (xs ++ drop (length xs) ys) ≡ xs) whole (take-append_seam xs (drop (length xs) ys))
