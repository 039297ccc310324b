use Rattle.std.proofs.Common.{◌≡◌, false, [], ◌∷◌, rules}
use Rattle.std.proofs.lemmas.List.Elements.{All-same, All-cons, All-nil}
use Rattle.program_tests.specs.declared.held.HeldLink.{HeldLink}
use Rattle.program_tests.proofs.performed.net.Goals as goal

pub new-requires : goal.new-requires
new-requires c =
    let is_open : HeldLink → Type 0 = λ l. l.wire.is_closed ≡ false in
    let up = c.in_ok-up.up in
    let down = c.in_ok-down.down in
    let items : c.in_ok-links.links.items ≡ up ∷ down ∷ [] = search rules in
    All-same is_open c.in_ok-links.links.items (up ∷ down ∷ []) items (All-cons is_open up (down ∷ []) c.in_ok-up.ensures (All-cons is_open down [] c.in_ok-down.ensures (All-nil is_open)))
