-- Rounds over a network leave a history so, where each part of them does.
use Rattle.std.proofs.Common.{◌==◌, ◌&&◌, ℕ, zero, suc, Bool, List, ◌++◌, length, All}
use Rattle.std.proofs.lemmas.List.Elements.{All-append, All-nil, All-weaker}
use Rattle.rand_pcg.specs.Lcg.{Lcg}
use Rattle.rx_law.specs.Worlds.{Datagram}
use Rattle.rx_model.specs.declared.event.Noted.{Noted}
use Rattle.rx_peer_plan.proofs.Safe.{Safe, each_safe, ends_safe, test_safe, then_safe}
use Rattle.rx_peer_plan.specs.Rounds.{Lossy, Network, Polled, carries, lossy, lossy_round, lossy_rounds, round, rounds}
use Rattle.rx_peer_plan.specs.Rounds.{settles}
use Rattle.rx_plan.proofs.Bags.{behind}
use Rattle.rx_plan.proofs.Soundness.SoundLossy.{all_come, all_stay}
use Rattle.rx_plan.specs.Lossy.{comes, fated, gathered}
use Rattle.rx_plan.specs.Parts.{To, each, ends}

module _ (Good : List Noted → Type 0) where
  -- a stage, and datagrams that were given
  pub record IsPoll {S : Type 0} (Is : List Noted → S → Type 0) (In : List Noted → Datagram → Type 0) (h : List Noted)
      (p : Polled S) : Type 0 where
    pub stage : Is h p.stage
    pub given : All (In h) p.given

  -- each part of a network's rounds leaves a history so; what is delivered was given, which it stays
  pub record NetworkSafe {S : Type 0} (Is : List Noted → S → Type 0) (In : List Noted → Datagram → Type 0)
      (n : Network S) : Type 0 where
    pub stays : (es h : List Noted) (d : Datagram) → In h d → In (behind es h) d
    pub polls : (h : List Noted) (s : S) → Good h → Is h s → Safe Good (IsPoll Is In) h (n.polls s)
    pub delivers :
        (h : List Noted) (d : Datagram) (s : S) → Good h → In h d → Is h s → Safe Good Is h (n.delivers d s)
    pub turns : (h : List Noted) (s : S) → Good h → Is h s → Safe Good Is h (n.turns s)
    pub waits : (h : List Noted) (s : S) → Good h → Is h s → Safe Good Is h (n.waits s)

module _ (Good : List Noted → Type 0) (S : Type 0) (Is : List Noted → S → Type 0)
    (In : List Noted → Datagram → Type 0) (n : Network S) (safe : NetworkSafe Good Is In n) where
  rests_safe : (h : List Noted) (s : S) → Good h → Is h s → Safe Good Is h (ends (To s))
  rests_safe h s good i = ends_safe Good Is h (To s) good i

  all_stays : (es h : List Noted) (ds : List Datagram) → All (In h) ds → All (In (behind es h)) ds
  all_stays es h ds there = All-weaker (In h) (In (behind es h)) (safe.stays es h) ds there

  deliveries_safe : (ds : List Datagram) (h : List Noted) (s : S) → Good h → All (In h) ds → Is h s
      → Safe Good Is h (each n.delivers ds s)
  deliveries_safe ds h s good there i = each_safe Good Is In n.delivers safe.stays safe.delivers ds h s good there i

  settles_safe : (quiet : Bool) (h : List Noted) (s : S) → Good h → Is h s → Safe Good Is h (settles n quiet s)
  settles_safe quiet h s good i =
      test_safe Good Is h quiet (n.waits s) (ends (To s)) (λ so. safe.waits h s good i) (λ so. rests_safe h s good i)

  -- ---- fair rounds

  round_safe : (h : List Noted) (s : S) → Good h → Is h s → Safe Good Is h (round n s)
  round_safe h s good i =
      then_safe Good (IsPoll Good Is In) Is h (n.polls s) _ (safe.polls h s good i)
      (λ es p now is.
      then_safe Good Is Is (behind es h) (each n.delivers p.given p.stage) _
      (deliveries_safe p.given (behind es h) p.stage now is.given is.stage)
      (λ more t well there.
      then_safe Good Is Is (behind more (behind es h)) (n.turns t) _
      (safe.turns (behind more (behind es h)) t well there)
      (λ last u last_good last_is.
      settles_safe (length p.given == 0) (behind last (behind more (behind es h))) u last_good last_is)))

  pub rounds_safe : (count : ℕ) (h : List Noted) (s : S) → Good h → Is h s → Safe Good Is h (rounds n count s)
  rounds_safe zero h s good i = rests_safe h s good i
  rounds_safe (suc count) h s good i =
      test_safe Good Is h (n.any_lives s) _ _
      (λ so.
      then_safe Good Is Is h (round n s) (rounds n count) (round_safe h s good i)
      (λ es t now is. rounds_safe count (behind es h) t now is)) (λ so. rests_safe h s good i)

  -- ---- lossy rounds

  -- a stage, and what is held was given
  record IsLossy (h : List Noted) (l : Lossy S) : Type 0 where
    stage : Is h l.stage
    held : All (In h) l.held

  carries_safe : (words : Lcg) (held given : List Datagram) (h : List Noted) (s : S) → Good h → Is h s
      → All (In h) given → All (In h) held → Safe Good IsLossy h (carries n words held given s)
  carries_safe words held given h s good i were kept =
      then_safe Good Is IsLossy h (each n.delivers (gathered comes (fated words given) ++ held) s) _
      (deliveries_safe (gathered comes (fated words given) ++ held) h s good
      (All-append (In h) (gathered comes (fated words given)) held (all_come (In h) words given were) kept) i)
      (λ more t well there.
      then_safe Good Is IsLossy (behind more h) (n.turns t) _ (safe.turns (behind more h) t well there)
      (λ last u last_good last_is.
      then_safe Good Is IsLossy (behind last (behind more h)) _ _
      (settles_safe ((length given == 0) && (length held == 0)) (behind last (behind more h)) u last_good last_is)
      (λ end v end_good end_is.
      ends_safe Good IsLossy (behind end (behind last (behind more h))) _ end_good
      (record {
        stage = end_is;
        held =
            all_stays end (behind last (behind more h)) _
            (all_stays last (behind more h) _ (all_stays more h _ (all_stay (In h) words given were)));
      }))))

  lossy_round_safe : (h : List Noted) (l : Lossy S) → Good h → IsLossy h l → Safe Good IsLossy h (lossy_round n l)
  lossy_round_safe h l good i =
      then_safe Good (IsPoll Good Is In) IsLossy h (n.polls l.stage) _ (safe.polls h l.stage good i.stage)
      (λ es p now is.
      carries_safe l.words l.held p.given (behind es h) p.stage now is.stage is.given (all_stays es h l.held i.held))

  lossy_rounds_safe : (count : ℕ) (h : List Noted) (l : Lossy S) → Good h → IsLossy h l
      → Safe Good Is h (lossy_rounds n count l)
  lossy_rounds_safe zero h l good i = rests_safe h l.stage good i.stage
  lossy_rounds_safe (suc count) h l good i =
      test_safe Good Is h (n.any_lives l.stage) _ _
      (λ so.
      then_safe Good IsLossy Is h (lossy_round n l) (lossy_rounds n count) (lossy_round_safe h l good i)
      (λ es t now is. lossy_rounds_safe count (behind es h) t now is)) (λ so. rests_safe h l.stage good i.stage)

  pub lossy_safe : (number count : ℕ) (h : List Noted) (s : S) → Good h → Is h s
      → Safe Good Is h (lossy n number count s)
  lossy_safe number count h s good i =
      lossy_rounds_safe count h _ good (record { stage = i; held = All-nil (In h) })
