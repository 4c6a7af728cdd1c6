-- How a client's terms are seen by the law.
use Rattle.order_law.specs.History.{Terms}
use Rattle.to_market.specs.declared.client_terms.ClientTerms.{ClientTerms}

abbrev pub terms_seen : ClientTerms → Terms
terms_seen terms = record {
  port = terms.port;
  capacity = terms.capacity;
  standing = record { firm = terms.firm; customer = terms.customer };
}
