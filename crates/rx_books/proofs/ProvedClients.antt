-- Changes that leave which clients are proved.
use Rattle.std.proofs.Common.{◌≡◌, ◌∷◌, [], if◌then◌else◌, Bool, true, false, List, map, refl}
use Rattle.rx_model.specs.Names.{Channel, Connection, same_connection}
use Rattle.rx_rules.specs.Looks.{ChannelLooks, ConnLooks, Looks, changed_at, on_channel, on_conn}
use Rattle.rx_books.specs.Polled.{proofs_of}

-- of each connection that passes a test
kept : (test : ConnLooks → Bool) (change : ConnLooks → ConnLooks) (rs : List ConnLooks)
    → ((r : ConnLooks) → (change r).proved ≡ r.proved)
    → map (λ r. r.proved) (map (λ r. if test r then change r else r) rs) ≡ map (λ r. r.proved) rs
kept test change [] keeps = refl
kept test change (r ∷ rs) keeps = (λ i. of (test r) i ∷ kept test change rs keeps i)
  where
    of : (b : Bool) → (if b then change r else r).proved ≡ r.proved
    of true = keeps r
    of false = refl

-- of a connection
pub proofs_conn : (x : Connection) (change : ConnLooks → ConnLooks) (l : Looks)
    → ((r : ConnLooks) → (change r).proved ≡ r.proved) → proofs_of (on_conn x change l) ≡ proofs_of l
proofs_conn x change l keeps = kept (λ r. same_connection r.connection x) change l.conns keeps

-- of a channel
pub proofs_channel : (ch : Channel) (change : ChannelLooks → ChannelLooks) (l : Looks)
    → proofs_of (on_channel ch change l) ≡ proofs_of l
proofs_channel ch change l =
    proofs_conn ch.connection (λ r. record r { channels = changed_at ch.chan change r.channels }) l (λ r. refl)
