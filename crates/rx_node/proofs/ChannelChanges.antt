-- A change of a channel that changes nothing, and one behind another.
use Rattle.std.proofs.Common.{◌≡◌, ℕ, zero, suc, Bool, true, false, List, [], ◌∷◌, map, refl, ◌∙◌, ap, if◌then◌else◌}
use Rattle.rx_model.specs.Names.{Channel, Connection, same_connection}
use Rattle.rx_rules.specs.Looks.{ChannelLooks, ConnLooks, Looks, changed_at, on_channel}
use Rattle.rx_rules.proofs.ConnsLaws.{conn_if}

changed-same : (qs : List ChannelLooks) (n : ℕ) (f : ChannelLooks → ChannelLooks) → ((q : ChannelLooks) → f q ≡ q)
    → changed_at n f qs ≡ qs
changed-same [] n f same = refl
changed-same (q ∷ qs) zero f same = ap (λ (p : ChannelLooks). p ∷ qs) (same q)
changed-same (q ∷ qs) (suc n) f same = ap (λ (ps : List ChannelLooks). q ∷ ps) (changed-same qs n f same)

conn-same : (x : Connection) (n : ℕ) (f : ChannelLooks → ChannelLooks) → ((q : ChannelLooks) → f q ≡ q)
    → (r : ConnLooks) → conn_if x (λ r. record r { channels = changed_at n f r.channels }) r ≡ r
conn-same x n f same r =
    (elim (same_connection r.connection x)
    as (λ b. (if b then record r { channels = changed_at n f r.channels } else r) ≡ r) [
      | true ↦ ap (λ (qs : List ChannelLooks). record r { channels = qs }) (changed-same r.channels n f same)
      | false ↦ refl
    ])

map-same : (f : ConnLooks → ConnLooks) (rs : List ConnLooks) → ((r : ConnLooks) → f r ≡ r) → map f rs ≡ rs
map-same f [] same = refl
map-same f (r ∷ rs) same =
    ap (λ (q : ConnLooks). q ∷ map f rs) (same r) ∙ ap (λ (qs : List ConnLooks). r ∷ qs) (map-same f rs same)

-- a change of a channel that changes nothing
pub channel_same : (ch : Channel) (f : ChannelLooks → ChannelLooks) (l : Looks) → ((q : ChannelLooks) → f q ≡ q)
    → on_channel ch f l ≡ l
channel_same ch f l same =
    ap (λ (rs : List ConnLooks). record l { conns = rs })
    (map-same (conn_if ch.connection (λ r. record r { channels = changed_at ch.chan f r.channels })) l.conns
    (conn-same ch.connection ch.chan f same))

changed-twice : (qs : List ChannelLooks) (n : ℕ) (f g : ChannelLooks → ChannelLooks)
    → changed_at n g (changed_at n f qs) ≡ changed_at n (λ q. g (f q)) qs
changed-twice [] n f g = refl
changed-twice (q ∷ qs) zero f g = refl
changed-twice (q ∷ qs) (suc n) f g = ap (λ (ps : List ChannelLooks). q ∷ ps) (changed-twice qs n f g)

-- a change of the n-th channel
abbrev channeled : ℕ → (ChannelLooks → ChannelLooks) → ConnLooks → ConnLooks
channeled n f r = record r { channels = changed_at n f r.channels }

conn-twice : (x : Connection) (n : ℕ) (f g : ChannelLooks → ChannelLooks) (r : ConnLooks)
    → conn_if x (channeled n g) (conn_if x (channeled n f) r) ≡ conn_if x (channeled n (λ q. g (f q))) r
conn-twice x n f g r =
    (elim (same_connection r.connection x) as (λ b. same_connection r.connection x ≡ b
    → conn_if x (channeled n g) (if b then channeled n f r else r)
    ≡ (if b then channeled n (λ q. g (f q)) r else r)) [
      | true ↦ λ is. (ap (λ (b : Bool). if b then channeled n g (channeled n f r) else channeled n f r) is
          ∙ ap (λ (qs : List ChannelLooks). record r { channels = qs }) (changed-twice r.channels n f g))
      | false ↦ λ is. ap (λ (b : Bool). if b then channeled n g r else r) is
    ]) refl

map-twice : (f g h : ConnLooks → ConnLooks) (rs : List ConnLooks) → ((r : ConnLooks) → g (f r) ≡ h r)
    → map g (map f rs) ≡ map h rs
map-twice f g h [] same = refl
map-twice f g h (r ∷ rs) same =
    ap (λ (q : ConnLooks). q ∷ map g (map f rs)) (same r)
    ∙ ap (λ (qs : List ConnLooks). h r ∷ qs) (map-twice f g h rs same)

-- a change of a channel behind another
pub channel_twice : (ch : Channel) (f g : ChannelLooks → ChannelLooks) (l : Looks)
    → on_channel ch g (on_channel ch f l) ≡ on_channel ch (λ q. g (f q)) l
channel_twice ch f g l =
    ap (λ (rs : List ConnLooks). record l { conns = rs })
    (map-twice (conn_if ch.connection (channeled ch.chan f)) (conn_if ch.connection (channeled ch.chan g))
    (conn_if ch.connection (channeled ch.chan (λ q. g (f q)))) l.conns (conn-twice ch.connection ch.chan f g))
