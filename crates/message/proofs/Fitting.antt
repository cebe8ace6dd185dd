-- What has a spelling has lengths that its fields can tell.
use Rattle.std.proofs.Common.{◌∷◌, [], true, false, Bool, List, All, sym, subst}
use Rattle.std.proofs.lemmas.List.Elements.{All-cons, All-nil}
use Rattle.message.specs.Fits.{ContentFits, NameFits}
use Rattle.message.specs.Range.{AreGrantItems, IsContent, IsFreshContent}
use Rattle.token_kind.specs.declared.«class».Class.{Class}
use Rattle.token_kind.specs.declared.«class».Class.TheVariants.{Names, Data, Attr, Open}
use Rattle.token_kind.specs.declared.content.Content.{Content}
use Rattle.token_kind.specs.declared.content.Content.TheVariants.{Nothing, Names as Entries, Bytes, Size}
use Rattle.token_kind.specs.declared.grant_item.GrantItem.{GrantItem}

fresh_fits : (of : Class) (content : Content) → IsFreshContent of content → ContentFits content
fresh_fits Names (Entries entries) is = (is.0, λ k d h. (is.1.names k d h).to_twenty_seven)
fresh_fits Names Nothing is = tt
fresh_fits Names (Bytes contents) is = absurd is
fresh_fits Names (Size size) is = tt
fresh_fits Data (Entries entries) is = absurd is
fresh_fits Data Nothing is = tt
fresh_fits Data (Bytes contents) is = is
fresh_fits Data (Size size) is = tt
fresh_fits Attr (Entries entries) is = absurd is
fresh_fits Attr Nothing is = tt
fresh_fits Attr (Bytes contents) is = absurd is
fresh_fits Attr (Size size) is = tt
fresh_fits Open (Entries entries) is = absurd is
fresh_fits Open Nothing is = tt
fresh_fits Open (Bytes contents) is = absurd is
fresh_fits Open (Size size) is = tt

content_fits : (of : Class) (fresh : Bool) (content : Content) → IsContent of fresh content → ContentFits content
content_fits of false content is = subst ContentFits (sym is) tt
content_fits of true content is = fresh_fits of content is

pub contents_fit : (items : List GrantItem) → AreGrantItems items → All (λ item. ContentFits item.content) items
contents_fit items are = λ k d h. (let is = are.each k d h in content_fits _ _ _ is.content)
