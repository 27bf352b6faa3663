use Rattle.std.proofs.Common.{◌≡◌, ℕ, ◌+◌, ◌-◌, ◌<◌, ◌≤◌, List, length, take, drop, get_or, All, sym, ap, ◌∙◌, arith, get_or-take, get_or-drop, ext_get_or}
use Rattle.std.proofs.lemmas.List.Elements.{All-filter}
use Rattle.sr_book.specs.Entries.{Name}
use Rattle.sr_book.specs.Rising.{top, offsets}
use Rattle.sr_msgform.specs.declared.message.Message.{Message}
use Rattle.sr_world_model.specs.Layers.{Layers}
use Rattle.sr_world_model.specs.Inner.Layers.{Laws}
use Rattle.sr_world_model.specs.Windows.{window}
use Rattle.sr_world_model.specs.Steps.{Comes, IsOfWindow, HasPiece, HasAllFragments}
use Rattle.sr_world_model.specs.Truth.{members, IsTrueOf}

-- a piece's byte is the body's
piece_byte : (fragment body : List ℕ) (start place : ℕ) → fragment ≡ take (length fragment) (drop start body) →
    start ≤ place → place < start + length fragment → get_or fragment (place - start) 0 ≡ get_or body place 0
piece_byte fragment body start place is from_start to_end =
    let within : place - start < length fragment = omega arith in
    let there : start + (place - start) ≡ place = omega arith in
    ap (λ bytes. get_or bytes (place - start) 0) is
    ∙ get_or-take (length fragment) (drop start body) (place - start) 0 within
    ∙ get_or-drop start body (place - start) 0
    ∙ ap (λ i. get_or body i 0) there

module _ {Entry Ops : Type 0} (p : Layers Entry Ops) where
  -- what a message's window holds, by the window that it is of
  members_of_window : (us : List Entry) (user d : Name) (prev upto total : ℕ) (m : Message) → m.to ≡ d → IsOfWindow prev upto total m →
      members p user us m ≡ window prev upto (p.given user d us)
  members_of_window us user d prev upto total m sent_to of_window =
      ap (λ low. window low m.upto.0 (p.given user m.to us)) of_window.begins
      ∙ ap (λ high. window prev high (p.given user m.to us)) of_window.ends
      ∙ ap (λ name. window prev upto (p.given user name us)) sent_to

  module _ (messages : List Message) (user d : Name) (us : List Entry) (prev upto : ℕ) (bytes : List ℕ)
      (is_whole : HasAllFragments messages user d prev upto bytes) (are_true : (came : Comes messages user d) → IsTrueOf p user us came.message) where
    is_members : (piece : HasPiece messages user d prev upto (length bytes)) → members p user us piece.comes.message ≡ window prev upto (p.given user d us)
    is_members piece = members_of_window us user d prev upto (length bytes) piece.comes.message piece.comes.sent_to piece.of_window

    long : length bytes ≡ length (p.encode (window prev upto (p.given user d us)))
    long =
        let t = are_true is_whole.some_piece.comes in
        sym is_whole.some_piece.of_window.long ∙ t.total ∙ ap (λ them. length (p.encode them)) (is_members is_whole.some_piece)

    byte : (place : ℕ) → place < length bytes → get_or bytes place 0 ≡ get_or (p.encode (window prev upto (p.given user d us))) place 0
    byte place below =
        let has = is_whole.covered place below in
        let t = are_true has.piece.comes in
        sym has.is_byte
        ∙ piece_byte has.piece.comes.message.fragment (p.encode (members p user us has.piece.comes.message))
        has.piece.comes.message.start place t.fragment has.from_start has.to_end
        ∙ ap (λ them. get_or (p.encode them) place 0) (is_members has.piece)

    -- pieces that are true and cover a window have the bytes of what the sender's history gives in it
    pub bytes_given : bytes ≡ p.encode (window prev upto (p.given user d us))
    bytes_given = ext_get_or 0 bytes (p.encode (window prev upto (p.given user d us))) long (λ place below. byte place below)

    -- and the last of that ends it
    pub last_given : top prev (offsets (window prev upto (p.given user d us))) ≡ upto
    last_given =
        let piece = is_whole.some_piece in
        let t = are_true piece.comes in
        ap (λ txs. top prev (offsets txs)) (sym (is_members piece))
        ∙ ap (λ low. top low (offsets (members p user us piece.comes.message))) (sym piece.of_window.begins)
        ∙ t.ends_at ∙ piece.of_window.ends

  module _ (HasSpelling : (ℕ × Ops) → Type 0) (lawful : Name → List Entry → Type 0) (laws : Laws p HasSpelling lawful) where
    -- what a lawful history gives in a window has a spelling
    pub window_fit : (user d : Name) (us : List Entry) (prev upto : ℕ) → lawful user us → All HasSpelling (window prev upto (p.given user d us))
    window_fit user d us prev upto keeps = All-filter _ HasSpelling (p.given user d us) (laws.given_fit user d us keeps)

    -- pieces that are true and cover a window spell what the sender's history gives in it
    pub spelled : (messages : List Message) (user d : Name) (us : List Entry) (prev upto : ℕ) (txs : List (ℕ × Ops)) →
        HasAllFragments messages user d prev upto (p.encode txs) → ((came : Comes messages user d) → IsTrueOf p user us came.message) →
        All HasSpelling txs → lawful user us → txs ≡ window prev upto (p.given user d us)
    spelled messages user d us prev upto txs is_whole are_true fit keeps =
        laws.encoded_once txs (window prev upto (p.given user d us)) fit (window_fit user d us prev upto keeps)
        (bytes_given messages user d us prev upto (p.encode txs) is_whole are_true)
