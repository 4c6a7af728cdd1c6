mod Lists
mod OtherKeys
