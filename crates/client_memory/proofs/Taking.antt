-- Items, Revokes and messages that are taken one after the other, by what is left.
use Rattle.std.proofs.Common.{◌≡◌, ◌∷◌, Bool, List, All, filter, ap, sym, subst, ◌∙◌}
use Rattle.std.proofs.lemmas.List.Elements.{All-filter}
use Rattle.client_cache.specs.Known.{Known}
use Rattle.token_kind.specs.declared.grant_item.GrantItem.{GrantItem}
use Rattle.token_kind.specs.declared.revoke.Revoke.{Revoke}
use Rattle.client_book.specs.Made.{revoking_all_in, revoking_in}
use Rattle.client_book.specs.Memory.{Memory, item_in, items_in, revoked_all_in, revoked_in}
use Rattle.client_book.specs.Sound.{IsRemembered}
use Rattle.outbox.specs.Sending.{Sending, put_all}
use Rattle.outbox.proofs.Going.{put-append}

-- an item more of a Grant is taken
pub items-more : (known after : Known) (item : GrantItem) (items rest : List GrantItem) → items ≡ item ∷ rest → after ≡ item_in known item → items_in after rest ≡ items_in known items
unfolding items_in
items-more known after item items rest e made = ap (λ (k : Known). items_in k rest) made ∙ ap (λ (list : List GrantItem). items_in known list) (sym e)

-- a Revoke more is taken
pub revoked-more : (m after : Memory) (revoke : Revoke) (revokes rest : List Revoke) → revokes ≡ revoke ∷ rest → after ≡ revoked_in m revoke.ino revoke.items → revoked_all_in after rest ≡ revoked_all_in m revokes
unfolding revoked_all_in
revoked-more m after revoke revokes rest e made = ap (λ (k : Memory). revoked_all_in k rest) made ∙ ap (λ (list : List Revoke). revoked_all_in m list) (sym e)

-- its messages go out before those of the rest
pub revoking-more : (m after : Memory) (old new : Sending) (revoke : Revoke) (revokes rest : List Revoke) → revokes ≡ revoke ∷ rest → after ≡ revoked_in m revoke.ino revoke.items
    → new ≡ put_all old (revoking_in m.known revoke.ino revoke.items) → put_all new (revoking_all_in after rest) ≡ put_all old (revoking_all_in m revokes)
unfolding revoking_all_in
revoking-more m after old new revoke revokes rest e made sent =
    ap (λ (s : Sending). put_all s (revoking_all_in after rest)) sent
    ∙ ap (λ (k : Memory). put_all (put_all old (revoking_in m.known revoke.ino revoke.items)) (revoking_all_in k rest)) made
    ∙ sym (put-append old (revoking_in m.known revoke.ino revoke.items) (revoking_all_in (revoked_in m revoke.ino revoke.items) rest))
    ∙ ap (λ (list : List Revoke). put_all old (revoking_all_in m list)) (sym e)

-- some of what may be remembered may be
pub kept-remembered : (test : Revoke → Bool) (all was list : List Revoke) → list ≡ filter test all → all ≡ was → All IsRemembered was → All IsRemembered list
kept-remembered test all was list made same each =
    subst (λ (revokes : List Revoke). All IsRemembered revokes) (sym (made ∙ ap (λ (revokes : List Revoke). filter test revokes) same)) (All-filter test IsRemembered was each)
