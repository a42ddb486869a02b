mod Steps
mod Lists
