-- Which messages a reader takes for an answer 297=0 to a hit, and which for a notice 694=1.
use Rattle.std.proofs.Common.{◌≡◌, ℕ, false, List, [], ◌∷◌, ◌++◌, codes, decimal, Option, Some}
use Rattle.std.proofs.Common.{None, refl, ap, ◌∙◌}
use Rattle.std.specs.Fmt as fmt
use Rattle.bond_prices.specs.Price.{price_digits}
use Rattle.fix_fields.specs.Frame.{Field, IsField, IsValue, fields_of, fields_text}
use Rattle.fix_fields.specs.Frame.{frame_of, pieces_of}
use Rattle.market_terms.specs.Codes.{close_code, refusal_name, side_code}
use Rattle.market_terms.specs.declared.asks.Ask.{Ask}
use Rattle.market_terms.specs.declared.asks.Side.{Side}
use Rattle.market_terms.specs.declared.asks.Side.TheVariants as side
use Rattle.market_terms.specs.declared.closes.Close.{Close}
use Rattle.market_terms.specs.declared.closes.Close.TheVariants as closes
use Rattle.market_terms.specs.declared.closes.HitRefusal.{HitRefusal}
use Rattle.market_terms.specs.declared.closes.HitRefusal.TheVariants as refusals
use Rattle.quote_messages.specs.Codes.{quote_reject_code}
use Rattle.quote_messages.specs.Written.{body_fields, header_fields}
use Rattle.quote_messages.specs.Written.{is_hit, msg_type_of, notice_name, party_fields, price_tag}
use Rattle.quote_messages.specs.Written.{quote_name, request_name, written, written_fields}
use Rattle.quote_messages.specs.declared.out_messages.Head.{Head}
use Rattle.quote_messages.specs.declared.out_messages.OutMessage.{OutMessage}
use Rattle.quote_messages.specs.declared.out_messages.OutMessage.TheVariants as out
use Rattle.quote_messages.specs.declared.out_messages.PassStatus.{PassStatus}
use Rattle.quote_messages.specs.declared.out_messages.PassStatus.TheVariants as pass
use Rattle.quote_messages.specs.declared.out_messages.QuotedPrice.{QuotedPrice}
use Rattle.quote_messages.specs.declared.out_messages.Request.{Request}
use Rattle.quote_messages.specs.declared.reject_reasons.QuoteRejectReason.TheVariants.{TooLate}
use Rattle.venue_rows.specs.Texts.{same_text}
use Rattle.dealer_desk.specs.declared.accepted.AcceptedQuote.{AcceptedQuote}
use Rattle.laws_shown.proofs.LawfulFields.{AreLawful, both_lawful, named_value, own_field}
use Rattle.laws_shown.proofs.ReadBack.{front_read, header_lawful, header_read, lawful_field}
use Rattle.laws_shown.proofs.ReadBack.{number_value, plain_value, price_value, type_read}
use Rattle.laws_trades.specs.SentTrades.{is_answer, is_notice}
use Rattle.laws_trades.specs.Trades.{notice_of}

-- Messages of another type, whatever they bear.

module _ (head : Head) (message : OutMessage) (fields : List Field)
    (read : frame_of (written head message) ≡ Some fields) where
  pub other_answer : same_text (msg_type_of message) (codes "AI") ≡ false
      → is_answer fields ≡ false
  other_answer other = rw (type_read head message fields read, other) refl

  pub other_notice : same_text (msg_type_of message) (codes "AJ") ≡ false
      → is_notice fields ≡ false
  other_notice other = rw (type_read head message fields read, other) refl

module _ (head : Head) (named : IsValue head.firm) (dated : IsValue head.date) where
  -- The fields that are read: those of the header, these that may stand in a frame, and what is
  -- read behind them.
  front_is : (message : OutMessage) (front behind fields : List Field)
      → body_fields head.date message ≡ front ++ behind → AreLawful front
      → frame_of (written head message) ≡ Some fields
      → fields ≡ header_fields (msg_type_of message) head
      ++ (front ++ fields_of (fields_text behind))
  front_is message front behind fields body lawful read =
      header_read head message fields read named dated
      ∙ ap (λ (own : List Field). header_fields (msg_type_of message) head
      ++ fields_of (fields_text own)) body
      ∙ ap (λ (own : List Field). header_fields (msg_type_of message) head ++ own)
      (front_read front behind lawful)

  -- Answers.

  abbrev pub NoAnswer : OutMessage → Type 0
  NoAnswer message = (fields : List Field) → frame_of (written head message) ≡ Some fields
      → is_answer fields ≡ false

  pub gone_read : (request : List ℕ) (quote : ℕ) → IsValue request
      → NoAnswer (out.QuoteGone request quote)
  gone_read request quote lawful fields read =
      ap is_answer (front_is (out.QuoteGone request quote)
      ((131, request) ∷ (117, quote_name quote) ∷ (297, codes "17") ∷ []) [] fields refl (
        lawful_field 131 request refl lawful,
        (
          lawful_field 117 (quote_name quote) refl (named_value (codes "Q") quote refl),
          (own_field 297 (codes "17") refl refl, tt),
        ),
      ) read)

  pub declined_read : (request dealer : List ℕ) → IsValue request
      → NoAnswer (out.DealerDeclined request dealer)
  declined_read request dealer lawful fields read =
      ap is_answer (front_is (out.DealerDeclined request dealer)
      ((131, request) ∷ (297, codes "11") ∷ []) (party_fields dealer (codes "35")) fields refl (
        lawful_field 131 request refl lawful,
        (own_field 297 (codes "11") refl refl, tt),
      ) read)

  pub expired_read : (request : List ℕ) → IsValue request → NoAnswer (out.RequestExpired request)
  expired_read request lawful fields read =
      ap is_answer (front_is (out.RequestExpired request)
      ((131, request) ∷ (297, codes "7") ∷ []) [] fields refl (
        lawful_field 131 request refl lawful,
        (own_field 297 (codes "7") refl refl, tt),
      ) read)

  -- of an accepted request no QuoteRespID (693) is read
  pub accepted_read : (request : List ℕ) → IsValue request
      → NoAnswer (out.RequestAccepted request)
  unfolding fields_of pieces_of
  accepted_read request lawful fields read =
      ap is_answer (front_is (out.RequestAccepted request)
      ((131, request) ∷ (297, codes "0") ∷ []) [] fields refl (
        lawful_field 131 request refl lawful,
        (own_field 297 (codes "0") refl refl, tt),
      ) read)

  pub unknown_read : (id quote : List ℕ) → IsValue id → IsValue quote
      → NoAnswer (out.HitUnknown id quote)
  unknown_read id quote lawful named_so fields read =
      ap is_answer (front_is (out.HitUnknown id quote)
      ((693, id) ∷ (117, quote) ∷ (297, codes "9") ∷ []) [] fields refl (
        lawful_field 693 id refl lawful,
        (lawful_field 117 quote refl named_so, (own_field 297 (codes "9") refl refl, tt)),
      ) read)

  -- the lines of a refusal behind 297=5
  abbrev refused_behind : HitRefusal → List Field
  refused_behind why =
      (300, decimal (quote_reject_code TooLate)) ∷ (58, refusal_name why) ∷ []

  pub refused_read : (id request : List ℕ) (quote : ℕ) (why : HitRefusal) → IsValue id
      → IsValue request → NoAnswer (out.HitReport id request quote (Some why))
  refused_read id request quote why lawful own fields read =
      ap is_answer (front_is (out.HitReport id request quote (Some why))
      ((693, id) ∷ (131, request) ∷ (117, quote_name quote) ∷ (297, codes "5") ∷ [])
      (refused_behind why) fields refl (
        lawful_field 693 id refl lawful,
        (
          lawful_field 131 request refl own,
          (
            lawful_field 117 (quote_name quote) refl (named_value (codes "Q") quote refl),
            (own_field 297 (codes "5") refl refl, tt),
          ),
        ),
      ) read)

  pub pass_read : (id request : List ℕ) (status : PassStatus) → IsValue id → IsValue request
      → NoAnswer (out.PassReport id request status)
  pass_read id request pass.Passed lawful own fields read =
      ap is_answer (front_is (out.PassReport id request pass.Passed)
      ((693, id) ∷ (131, request) ∷ (297, codes "11") ∷ []) [] fields refl (
        lawful_field 693 id refl lawful,
        (lawful_field 131 request refl own, (own_field 297 (codes "11") refl refl, tt)),
      ) read)
  pass_read id request pass.NotOpen lawful own fields read =
      ap is_answer (front_is (out.PassReport id request pass.NotOpen)
      ((693, id) ∷ (131, request) ∷ (297, codes "5") ∷ []) (refused_behind refusals.NotOpen)
      fields refl (
        lawful_field 693 id refl lawful,
        (lawful_field 131 request refl own, (own_field 297 (codes "5") refl refl, tt)),
      ) read)
  pass_read id request pass.Unknown lawful own fields read =
      ap is_answer (front_is (out.PassReport id request pass.Unknown)
      ((693, id) ∷ (131, request) ∷ (297, codes "9") ∷ []) [] fields refl (
        lawful_field 693 id refl lawful,
        (lawful_field 131 request refl own, (own_field 297 (codes "9") refl refl, tt)),
      ) read)

  -- an answer 297=0 to a hit
  pub answer_lawful : (id request : List ℕ) (quote : ℕ) → IsValue id → IsValue request
      → AreLawful (written_fields head (out.HitReport id request quote None))
  answer_lawful id request quote lawful own =
      both_lawful (header_fields (codes "AI") head)
      ((693, id) ∷ (131, request) ∷ (117, quote_name quote) ∷ (297, codes "0") ∷ [])
      (header_lawful (codes "AI") head (plain_value (codes "AI") refl) named dated) (
        lawful_field 693 id refl lawful,
        (
          lawful_field 131 request refl own,
          (
            lawful_field 117 (quote_name quote) refl (named_value (codes "Q") quote refl),
            (own_field 297 (codes "0") refl refl, tt),
          ),
        ),
      )

  -- Notices.

  -- a notice with another 694 than 1
  close_read : (number : ℕ) (request : Request) (close : Close) (quote : Option QuotedPrice)
      (fields : List Field)
      → body_fields head.date (out.ClosingNotice (record {
        number = number;
        request = request;
        close = close;
        quote = quote;
      }))
      ≡ ((693, notice_name number) ∷ (131, request_name request.number)
      ∷ (694, decimal (close_code close)) ∷ [])
      ++ ((55, codes "[N/A]") ∷ (48, request.ask.bond) ∷ (22, codes "4")
      ∷ (54, decimal (side_code request.ask.side)) ∷ (38, decimal request.ask.quantity) ∷ [])
      → same_text (decimal (close_code close)) (codes "1") ≡ false
      → frame_of (written head (out.ClosingNotice (record {
        number = number;
        request = request;
        close = close;
        quote = quote;
      }))) ≡ Some fields → is_notice fields ≡ false
  close_read number request close quote fields body other read =
      ap is_notice (front_is (out.ClosingNotice (record {
        number = number;
        request = request;
        close = close;
        quote = quote;
      })) ((693, notice_name number) ∷ (131, request_name request.number)
      ∷ (694, decimal (close_code close)) ∷ [])
      ((55, codes "[N/A]") ∷ (48, request.ask.bond) ∷ (22, codes "4")
      ∷ (54, decimal (side_code request.ask.side)) ∷ (38, decimal request.ask.quantity) ∷ []) fields
      body (
        lawful_field 693 (notice_name number) refl (named_value (codes "N") number refl),
        (
          lawful_field 131 (request_name request.number) refl
              (named_value (codes "R") request.number refl),
          (lawful_field 694 (decimal (close_code close)) refl (number_value (close_code close)), tt),
        ),
      ) read) ∙ other

  pub closing_read : (number : ℕ) (request : Request) (close : Close) (quote : Option QuotedPrice)
      → is_hit close ≡ false → (fields : List Field)
      → frame_of (written head (out.ClosingNotice (record {
        number = number;
        request = request;
        close = close;
        quote = quote;
      }))) ≡ Some fields → is_notice fields ≡ false
  unfolding fmt.digits
  closing_read number request closes.Hit quote other fields read = cc
  closing_read number request closes.Expired quote other fields read =
      close_read number request closes.Expired quote fields refl refl read
  closing_read number request closes.Cover quote other fields read =
      close_read number request closes.Cover quote fields refl refl read
  closing_read number request closes.DoneAway quote other fields read =
      close_read number request closes.DoneAway quote fields refl refl read
  closing_read number request closes.Pass quote other fields read =
      close_read number request closes.Pass quote fields refl refl read

  price_field : (asked : Side) (price : ℕ) → IsField (price_tag asked, price_digits price)
  price_field side.Buy price = lawful_field 133 (price_digits price) refl (price_value price)
  price_field side.Sell price = lawful_field 132 (price_digits price) refl (price_value price)

  -- the notice of a trade
  pub notice_lawful : (number : ℕ) (ask : Ask) (quote : AcceptedQuote) → IsValue quote.id
      → IsValue ask.bond → AreLawful (written_fields head (notice_of number ask quote))
  notice_lawful number ask quote id bond =
      let body = body_fields head.date (notice_of number ask quote) in
      let lawful : AreLawful (body_fields head.date (notice_of number ask quote)) = (
        lawful_field 693 (notice_name number) refl (named_value (codes "N") number refl),
        (
          lawful_field 131 (request_name quote.request) refl
              (named_value (codes "R") quote.request refl),
          (
            lawful_field 117 quote.id refl id,
            (
              lawful_field 694 (decimal (close_code closes.Hit)) refl
                  (number_value (close_code closes.Hit)),
              (
                own_field 55 (codes "[N/A]") refl refl,
                (
                  lawful_field 48 ask.bond refl bond,
                  (
                    own_field 22 (codes "4") refl refl,
                    (
                      lawful_field 54 (decimal (side_code ask.side)) refl (number_value (side_code ask.side)),
                      (
                        lawful_field 38 (decimal ask.quantity) refl (number_value ask.quantity),
                        (price_field ask.side quote.price, tt),
                      ),
                    ),
                  ),
                ),
              ),
            ),
          ),
        ),
      ) in
      both_lawful (header_fields (codes "AJ") head) body
      (header_lawful (codes "AJ") head (plain_value (codes "AJ") refl) named dated) lawful
