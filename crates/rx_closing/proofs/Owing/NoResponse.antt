-- No RESPONSE passes the rows in front, where none challenges.
use Rattle.std.proofs.Common.{◌≡◌, ◌&&◌, ◌==◌, not, ℕ, if◌then◌else◌, Bool, true, false, List, Option, Some, None, refl}
use Rattle.std.proofs.Common.{ap, sym, ◌∙◌}
use Rattle.rx_model.specs.declared.answers.Took.{Took}
use Rattle.rx_model.specs.declared.answers.Took.TheVariants as tooks
use Rattle.rx_model.specs.declared.names.Host.{Host}
use Rattle.rx_model.specs.declared.wire.TheConstants.{CLIENT_INITIATED}
use Rattle.rx_model.specs.Body.{Body}
use Rattle.rx_model.specs.Body as bodies
use Rattle.rx_model.specs.Message.{Message, has_flag}
use Rattle.rx_model.specs.Names.{connection_of}
use Rattle.rx_rules.specs.Judging.{is_for_clients, is_for_servers, is_peer, outer_row}
use Rattle.rx_rules.specs.Looks.{Looks, conn_at}
use Rattle.rx_rules.specs.Setup.{Setup, Kind, Client, Server, named}
use Rattle.rx_closing.proofs.Owing.OwesNone.{StopsQuietly}

-- ---- bodies

-- no RESPONSE passes the rows in front, where none challenges
pub no_response : (s : Setup) (kind : Kind) (l : Looks) (from : Host) (m : Message) → s.class.challenges ≡ false
    → outer_row s kind l from m ≡ None → StopsQuietly m.body
no_response s kind l from m still front = by m.body refl
  where
    server : (a b : Bool) (rest : Option Took)
        → (if not a then Some tooks.Foreign else if not b then Some tooks.Strange else rest) ≡ None → b ≡ true
    server true true rest is = refl
    server true false rest is = absurd cc
    server false b rest is = absurd cc

    client : (a b x y : Bool)
        → (if a then Some tooks.Foreign else if not b then Some tooks.Strange
        else if not (x && y) then Some tooks.Strange else None) ≡ None
        → y ≡ true
    client true b x y is = absurd cc
    client false false x y is = absurd cc
    client false true false y is = absurd cc
    client false true true true is = refl
    client false true true false is = absurd cc

    of : (kind : Kind) → outer_row s kind l from m ≡ None → (bytes : List ℕ) → m.body ≡ bodies.Response bytes → ⊥
    of (Server service nonces) front bytes is =
        (let for : is_for_servers s.class.challenges m.body ≡ true =
        server (has_flag CLIENT_INITIATED m.flags) (is_for_servers s.class.challenges m.body) _ front in
        let yes : s.class.challenges ≡ true = sym (ap (is_for_servers s.class.challenges) is) ∙ for in
        let no : false ≡ true = sym still ∙ yes in cc)
    of (Client host epoch) front bytes is =
        (let for : is_for_clients s.class.challenges m.body ≡ true =
        client (has_flag CLIENT_INITIATED m.flags) (is_peer from (conn_at l (connection_of (named s from m))))
        (m.index == s.class.index) (is_for_clients s.class.challenges m.body) front in
        let no : false ≡ true = sym (ap (is_for_clients s.class.challenges) is) ∙ for in cc)

    by : (body : Body) → m.body ≡ body → StopsQuietly body
    by (bodies.Response bytes) is = of kind front bytes is
    by _ is = tt
