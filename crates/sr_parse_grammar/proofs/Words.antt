-- Key words and signs, one after the other, and which sign bytes are.
use Rattle.std.proofs.Common.{◌≡◌, ℕ, List, [], ◌∷◌, refl, sym, subst, inl, inr, ◌⊎◌}
use Rattle.sr_ast.specs.declared.keyword.Keyword.{Keyword}
use Rattle.sr_ast.specs.declared.keyword.Keyword.TheVariants as key
use Rattle.sr_parse_grammar.specs.declared.symbol.Sign.{Sign}
use Rattle.sr_parse_grammar.specs.declared.symbol.Sign.TheVariants as mark
use Rattle.sr_parse_grammar.specs.Meanings.{sign_text}

abbrev pub Among : {A : Type 0} → A → List A → Type 0
Among x [] = ⊥
Among x (y ∷ ys) = (x ≡ y) ⊎ Among x ys

-- a sign that the bytes still may be is one of those left
pub record MayStand (bytes : List ℕ) (left : List Sign) : Type 0 where
  pub among : (s : Sign) → bytes ≡ sign_text s → Among s left

abbrev pub keywords : List Keyword
keywords =
    key.Create ∷ key.Table ∷ key.Primary ∷ key.Key ∷ key.Not ∷ key.Null ∷ key.Integer ∷ key.Int ∷ key.Bigint ∷ key.Varchar ∷
    key.Date ∷ key.Drop ∷ key.Publication ∷ key.Where ∷ key.Subscribe ∷ key.By ∷ key.Grant ∷ key.Remote ∷ key.To ∷ key.Type ∷
    key.File ∷ key.Address ∷ key.Consolidate ∷ key.Start ∷ key.Stop ∷ key.Synchronize ∷ key.Subscription ∷ key.For ∷
    key.Trigger ∷ key.Resolve ∷ key.Update ∷ key.Of ∷ key.On ∷ key.Referencing ∷ key.Old ∷ key.New ∷ key.As ∷ key.Each ∷
    key.Row ∷ key.Begin ∷ key.Declare ∷ key.End ∷ key.Set ∷ key.Insert ∷ key.Into ∷ key.Values ∷ key.If ∷ key.Then ∷ key.Else ∷
    key.Delete ∷ key.From ∷ key.Select ∷ key.Count ∷ key.Sum ∷ key.Min ∷ key.Max ∷ key.Inner ∷ key.Join ∷ key.Order ∷ key.Asc ∷
    key.Desc ∷ key.Commit ∷ key.Work ∷ key.Rollback ∷ key.Passthrough ∷ key.Only ∷ key.Or ∷ key.And ∷ key.Is ∷
    key.Option ∷ key.Alter ∷ key.Add ∷ key.Default ∷ key.Global ∷ key.Autoincrement ∷ key.Send ∷ key.Every ∷ key.At ∷ []

abbrev pub signs : List Sign
signs = mark.Open ∷ mark.Close ∷ mark.Comma ∷ mark.Semicolon ∷ mark.Dot ∷ mark.Plus ∷ mark.Minus ∷ mark.Times ∷ mark.Equal ∷ mark.Unequal ∷ mark.Less ∷ mark.AtMost ∷ mark.Greater ∷ mark.AtLeast ∷ []

each_sign : (s : Sign) → Among s signs
each_sign mark.Open = inl refl
each_sign mark.Close = inr (inl refl)
each_sign mark.Comma = inr (inr (inl refl))
each_sign mark.Semicolon = inr (inr (inr (inl refl)))
each_sign mark.Dot = inr (inr (inr (inr (inl refl))))
each_sign mark.Plus = inr (inr (inr (inr (inr (inl refl)))))
each_sign mark.Minus = inr (inr (inr (inr (inr (inr (inl refl))))))
each_sign mark.Times = inr (inr (inr (inr (inr (inr (inr (inl refl)))))))
each_sign mark.Equal = inr (inr (inr (inr (inr (inr (inr (inr (inl refl))))))))
each_sign mark.Unequal = inr (inr (inr (inr (inr (inr (inr (inr (inr (inl refl)))))))))
each_sign mark.Less = inr (inr (inr (inr (inr (inr (inr (inr (inr (inr (inl refl))))))))))
each_sign mark.AtMost = inr (inr (inr (inr (inr (inr (inr (inr (inr (inr (inr (inl refl)))))))))))
each_sign mark.Greater = inr (inr (inr (inr (inr (inr (inr (inr (inr (inr (inr (inr (inl refl))))))))))))
each_sign mark.AtLeast = inr (inr (inr (inr (inr (inr (inr (inr (inr (inr (inr (inr (inr (inl refl)))))))))))))

dropped : {A : Type 0} (P : A → Type 0) (x : A) (y : A) (ys : List A) → (P y → ⊥) → P x → (x ≡ y) ⊎ Among x ys → Among x ys
dropped P x y ys never h (inl e) = absurd (never (subst P e h))
dropped P x y ys never h (inr m) = m

pub MayStand-start : (bytes : List ℕ) (left : List Sign) → left ≡ signs → MayStand bytes left
MayStand-start bytes left e = record { among = λ k h. subst (λ (l : List Sign). Among k l) (sym e) (each_sign k) }
