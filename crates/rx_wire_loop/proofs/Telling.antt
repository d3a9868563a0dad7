-- What is told of some events and entries and then of others is told of both.
use Rattle.std.proofs.Common.{◌≡◌, ◌∙◌, ℕ, List, [], ◌∷◌, ◌++◌, Option, Some, None, refl, sym, ap, subst}
use Rattle.std.proofs.Common.{append_assoc}
use Rattle.std.proofs.lemmas.List.{append-nil}
use Rattle.rx_base.specs.Sink.{Gained, HasRisen}
use Rattle.rx_model.specs.declared.event.Event.{Event}
use Rattle.rx_model.specs.declared.event.Noted.{Noted}
use Rattle.rx_wire.specs.Wire.{HasLogged, Logged, Traffic}
use Rattle.rx_wire.specs.Turns.{HasNotedAll}
use Rattle.rx_wire.proofs.TurnLaws.{HasNotedAll-append, HasNotedAll-none}
use Rattle.rx_wire_loop.specs.Tells.{Breaks, Fails, GainedLast, Gains, HasLoggedAll, Refuses, Told, Wants}
use Rattle.rx_wire_loop.specs.Tells.{SinkTells, WireTells, logged_all, told}
use Rattle.rx_wire_loop.specs.Texts.{event_line, lines}

-- ---- lines

-- the lines of two lists of events are those of the first and those of the second
pub lines_both : (es fs : List Event) → lines (es ++ fs) ≡ lines es ++ lines fs
lines_both [] fs = refl
lines_both (e ∷ es) fs =
    ap (λ (xs : List ℕ). event_line e ++ xs) (lines_both es fs) ∙ sym (append_assoc (event_line e) (lines es)
    (lines fs))

pub front_none : (xs ys : List ℕ) → xs ++ ys ≡ [] → xs ≡ []
front_none [] ys none = refl
front_none (x ∷ xs) ys none = absurd (cc (none))

pub back_none : (xs ys : List ℕ) → xs ++ ys ≡ [] → ys ≡ []
back_none [] ys none = none
back_none (x ∷ xs) ys none = absurd (cc (none))

-- where events have no lines, neither all but the last nor the last has
pub lines_last : (es early : List Event) (last : Event) → es ≡ early ++ last ∷ [] → lines es ≡ []
    → lines early ++ lines (last ∷ []) ≡ []
lines_last es early last are quiet = sym (lines_both early (last ∷ [])) ∙ sym (ap lines are) ∙ quiet

-- nothing was put
pub gained_none : (a : Option (List ℕ)) → Gained a a []
gained_none None = refl
gained_none (Some old) = sym (ap Some (append-nil old))

pub gained_both : (a b c : Option (List ℕ)) (xs ys : List ℕ) → Gained a b xs → Gained b c ys → Gained a c (xs ++ ys)
gained_both None b c xs ys first second = subst (λ (m : Option (List ℕ)). Gained m c ys) first second
gained_both (Some old) b c xs ys first second =
    let behind : Gained (Some (old ++ xs)) c ys = subst (λ (m : Option (List ℕ)). Gained m c ys) first second in
    behind ∙ ap Some (append_assoc old xs ys)

-- ---- logs

pub logged_none : (a : Option Traffic) → HasLoggedAll a a []
logged_none None = refl
logged_none (Some old) = ap (λ (ls : List Logged). Some (record old { log = ls })) (sym (append-nil old.log))

pub logged_both : (a b c : Option Traffic) (ls ms : List Logged) → HasLoggedAll a b ls → HasLoggedAll b c ms
    → HasLoggedAll a c (ls ++ ms)
logged_both None b c ls ms first second = subst (λ (m : Option Traffic). HasLoggedAll m c ms) first second
logged_both (Some old) b c ls ms first second =
    let behind : HasLoggedAll (Some (logged_all old ls)) c ms =
    subst (λ (m : Option Traffic). HasLoggedAll m c ms) first second in
    behind ∙ ap (λ (ns : List Logged). Some (record old { log = ns })) (append_assoc old.log ls ms)

-- one entry
pub logged_one : (a b : Option Traffic) (l : Logged) → HasLogged a b l → HasLoggedAll a b (l ∷ [])
logged_one None b l is = is
logged_one (Some old) b l is = is

-- ---- all of it

pub gains_none : (node : ℕ) (t : Told) → Gains node t t [] []
gains_none node t =
    record {
      noted = HasNotedAll-none t.noted node;
      put = gained_none t.sink.put;
      log = logged_none t.wire.traffic;
      puts = refl;
      calls = refl;
    }

-- the same where nothing was made between
pub gains_same : (node : ℕ) (a b : Told) → b ≡ a → Gains node a b [] []
gains_same node a b same = subst (λ (t : Told). Gains node a t [] []) (sym same) (gains_none node a)

-- the lines of both, from those of each
put_both : (a b c : Option (List ℕ)) (es fs : List Event) → Gained a b (lines es) → Gained b c (lines fs)
    → Gained a c (lines (es ++ fs))
put_both a b c es fs first second =
    subst (λ (xs : List ℕ). Gained a c xs) (sym (lines_both es fs)) (gained_both a b c (lines es) (lines fs) first
    second)

-- a count that rose behind one that stayed
risen_behind : (a b c : ℕ) → b ≡ a → HasRisen b c → HasRisen a c
risen_behind a b c same risen = subst (λ (x : ℕ). HasRisen x c) same risen

pub gains_both : (node : ℕ) (a b c : Told) (es fs : List Event) (ls ms : List Logged) → Gains node a b es ls
    → Gains node b c fs ms → Gains node a c (es ++ fs) (ls ++ ms)
gains_both node a b c es fs ls ms x y =
    record {
      noted = HasNotedAll-append a.noted b.noted c.noted node es fs x.noted y.noted;
      put = put_both a.sink.put b.sink.put c.sink.put es fs x.put y.put;
      log = logged_both a.wire.traffic b.wire.traffic c.wire.traffic ls ms x.log y.log;
      puts = y.puts ∙ x.puts;
      calls = y.calls ∙ x.calls;
    }

-- what was noted of events without lines, whatever a sink has
pub gains_any : (node : ℕ) (before after : Option (List Noted)) (k l sink : SinkTells) (wire : WireTells)
    (es : List Event) (ls : List Logged) → lines es ≡ [] → Gains node (told before k wire) (told after l wire) es ls
    → Gains node (told before sink wire) (told after sink wire) es ls
gains_any node before after k l sink wire es ls quiet g =
    record {
      noted = g.noted;
      put = subst (λ (xs : List ℕ). Gained sink.put sink.put xs) (sym quiet) (gained_none sink.put);
      log = g.log;
      puts = refl;
      calls = g.calls;
    }

pub wants_behind : (node : ℕ) (a b c : Told) (es fs : List Event) (ls ms : List Logged) → Gains node a b es ls
    → Wants node b c fs ms → Wants node a c (es ++ fs) (ls ++ ms)
wants_behind node a b c es fs ls ms x y =
    record {
      early = es ++ y.early;
      last = y.last;
      are = ap (λ (xs : List Event). es ++ xs) y.are ∙ sym (append_assoc es y.early (y.last ∷ []));
      noted = HasNotedAll-append a.noted b.noted c.noted node es fs x.noted y.noted;
      put = put_both a.sink.put b.sink.put c.sink.put es y.early x.put y.put;
      lined = y.lined;
      log = logged_both a.wire.traffic b.wire.traffic c.wire.traffic ls ms x.log y.log;
      puts = y.puts ∙ x.puts;
      calls = y.calls ∙ x.calls;
    }

pub refuses_behind : (node : ℕ) (a b c : Told) (es fs : List Event) (ls ms : List Logged) → Gains node a b es ls
    → Refuses node b c fs ms → Refuses node a c (es ++ fs) (ls ++ ms)
refuses_behind node a b c es fs ls ms x y =
    record {
      early = es ++ y.early;
      last = y.last;
      are = ap (λ (xs : List Event). es ++ xs) y.are ∙ sym (append_assoc es y.early (y.last ∷ []));
      gains = gains_both node a b c es y.early ls ms x y.gains;
    }

-- the lines of all but the last of both, where those of the first were put
gained_last : (a b c : Option (List ℕ)) (es fs : List Event) → Gained a b (lines es) → GainedLast b c fs
    → GainedLast a c (es ++ fs)
gained_last a b c es fs first (early, last, between, are, whole, some, lined) = (
  es ++ early,
  last,
  between,
  ap (λ (xs : List Event). es ++ xs) are ∙ sym (append_assoc es early (last ∷ [])),
  put_both a b between es early first whole,
  some,
  lined,
)

pub fails_behind : (node : ℕ) (a b c : Told) (es fs : List Event) (ls ms : List Logged) → Gains node a b es ls
    → Fails node b c fs ms → Fails node a c (es ++ fs) (ls ++ ms)
fails_behind node a b c es fs ls ms x y =
    record {
      noted = HasNotedAll-append a.noted b.noted c.noted node es fs x.noted y.noted;
      put = gained_last a.sink.put b.sink.put c.sink.put es fs x.put y.put;
      log = logged_both a.wire.traffic b.wire.traffic c.wire.traffic ls ms x.log y.log;
      puts = risen_behind a.sink.faults b.sink.faults c.sink.faults x.puts y.puts;
      calls = y.calls ∙ x.calls;
    }

pub breaks_behind : (node : ℕ) (a b c : Told) (es fs : List Event) (ls ms : List Logged) → Gains node a b es ls
    → Breaks node b c fs ms → Breaks node a c (es ++ fs) (ls ++ ms)
breaks_behind node a b c es fs ls ms x y =
    record {
      noted = HasNotedAll-append a.noted b.noted c.noted node es fs x.noted y.noted;
      put = put_both a.sink.put b.sink.put c.sink.put es fs x.put y.put;
      log = logged_both a.wire.traffic b.wire.traffic c.wire.traffic ls ms x.log y.log;
      puts = y.puts ∙ x.puts;
      calls = risen_behind a.wire.faults b.wire.faults c.wire.faults x.calls y.calls;
    }
