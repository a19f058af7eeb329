pub mod InquiryParts
